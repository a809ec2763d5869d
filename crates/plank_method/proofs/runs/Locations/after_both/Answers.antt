use Rattle.plank_pic.specs.declared.literals.Exit.{Exit}
use Rattle.plank_method.specs.Runs.{IsHadAfter, IsHadAfterBoth}
use Rattle.plank_method.proofs.Sifting.{sifted_both}
use Rattle.plank_unit.specs.Units.{IsRefutedBySteps}
use Rattle.plank_method.specs.Deciding.{outline_of}
use Rattle.plank_method.proofs.Exits.{both_exits}
use Rattle.plank_method.proofs.runs.Locations.after_both.Goals as goal

pub returns : goal.returns
returns g c =
    sifted_both (g.D.Deciding.program c.args.self.now.deciding.now) c.args.self.now.marks.now c.args.self.now.method c.args.location c.args.claimed.now c.in_ok-after_yes.after_yes c.in_ok-after_no.after_no
    (λ O x. IsHadAfter c.args.from Exit.Yes O x) (λ O x. IsHadAfter c.args.from Exit.No O x) (λ O x. IsHadAfterBoth c.args.from O x) (λ O x. IsRefutedBySteps O x)
    c.in_ok-after_yes.ensures c.in_ok-after_no.ensures (both_exits c.args.from (outline_of (g.D.Deciding.program c.args.self.now.deciding.now) c.args.self.now.marks.now))
