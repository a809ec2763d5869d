use Rattle.std.proofs.Common.{sym, ap, ◌∙◌, arith}
use Rattle.std.specs.Option.{option_copied}
use Rattle.plank_marks.proofs.Rooms.{few_of_method}
use Rattle.plank_marks.proofs.marking.location_count.Goals as goal

pub overflow_cast-result : goal.overflow_cast-result
overflow_cast-result c =
    let few = few_of_method c.args.program.now.header c.args.program.now.methods c.args.program.now.methods_are_lawful c.args.method c.in-Some.method.now (sym c.get.ensures.value ∙ ap (λ o. option_copied o) c.in-Some.is) in
    let is = c.len.ensures in
    omega arith

pub returns-in-Some-clause-few : goal.returns-in-Some-clause-few
returns-in-Some-clause-few c =
    let few = few_of_method c.args.program.now.header c.args.program.now.methods c.args.program.now.methods_are_lawful c.args.method c.in-Some.method.now (sym c.get.ensures.value ∙ ap (λ o. option_copied o) c.in-Some.is) in
    let is = c.len.ensures in
    omega arith
