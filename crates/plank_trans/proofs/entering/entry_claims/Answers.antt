use Rattle.std.proofs.Common.{◌≡◌, subst, arith}
use Rattle.plank_trans.specs.Entry.{AreOfEntry}
use Rattle.plank_trans.proofs.Begins.{none_null, one_null}
use Rattle.plank_trans.proofs.entering.entry_claims.Goals as goal

pub loop-variable-init : goal.loop-variable-init
loop-variable-init c = none_null c.new-claims.result.items c.add.new.claims.items c.new-claims.ensures.items c.in_ok-add.ensures

pub loop-variable-preserved : goal.loop-variable-preserved
loop-variable-preserved c = one_null c.loop-variable.variable c.loop-variable.claims.items c.add-in-loop-variable.new.claims.items c.loop-variable.invariant c.in_ok-add-2.ensures

pub returns : goal.returns
returns c =
    let near = c.loop-variable.auto.variable-end in
    let far = c.loop-variable-test.false in
    let all : c.loop-variable.variable ≡ c.args.variables = omega arith in
    subst (λ n. AreOfEntry n c.loop-variable.claims.items) all c.loop-variable.invariant
