-- A method has few variables.
use Rattle.std.proofs.Common.{sym, arith}
use Rattle.plank_fact.proofs.Limits.{few_variables}
use Rattle.plank_fact.proofs.tables.sizes.Goals as goal

pub overflow_cast-names : goal.overflow_cast-names
overflow_cast-names c =
    let few = few_variables c.args.program.now.header c.args.program.now.methods c.args.program.now.methods_are_lawful c.args.method c.in_ok-method.method.now (sym c.in_ok-method.ensures.value) in
    let is = c.len.ensures in
    omega arith

pub overflow_add-names : goal.overflow_add-names
overflow_add-names c =
    let few = few_variables c.args.program.now.header c.args.program.now.methods c.args.program.now.methods_are_lawful c.args.method c.in_ok-method.method.now (sym c.in_ok-method.ensures.value) in
    let is = c.len.ensures in
    omega arith
