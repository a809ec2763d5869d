use Rattle.std.proofs.Common.{ap, ◌∙◌}
use Rattle.plank_prog.specs.declared.programs.Program.{Program}
use Rattle.plank_fact.specs.ObligationList.{obligations}
use Rattle.plank_judge.specs.Verdicts.{outline_of}
use Rattle.plank_judge.proofs.Firsts.{first_is, all_hold}
use Rattle.plank_judge.proofs.verdicts.judge.Goals as goal

pub returns-in-Some : goal.returns-in-Some
returns-in-Some g c =
    first_is (outline_of (g.D.Demands.program c.args.demands.now) c.args.marks.now) c.as_slice.result.now c.in-Some.obligation
    (c.as_slice.ensures.value ∙ c.in_ok-list.ensures ∙ ap (λ (p : Program). obligations p.methods) c.program.ensures) (rw c.in-Some.is at c.in_ok-first.ensures.found)

pub returns : goal.returns
returns g c =
    all_hold (outline_of (g.D.Demands.program c.args.demands.now) c.args.marks.now) c.as_slice.result.now
    (c.as_slice.ensures.value ∙ c.in_ok-list.ensures ∙ ap (λ (p : Program). obligations p.methods) c.program.ensures) (rw c.in-None.is at c.in_ok-first.ensures.none)
