-- One of the two walks enters the chain.
use Rattle.std.proofs.Common.{sym, ◌∙◌, ap, ap₂}
use Rattle.std.specs.Prelude.{◌||◌}
use Rattle.plank_pic.specs.declared.parts.KeyName.{KeyName}
use Rattle.plank_pic.specs.Keeps.{enters_chain}
use Rattle.plank_pic.specs.Steps.{mixed}
use Rattle.plank_step.specs.Turns.{change_over}
use Rattle.plank_reach.proofs.goals.enters_either.Goals as goal

pub returns-in_ok-enters_chain-2 : goal.returns-in_ok-enters_chain-2
returns-in_ok-enters_chain-2 g c = λ full agrees.
    let F = g.S.Reader.frame c.args.before.now in
    let p = g.S.Reader.picture c.args.before.now full in
    let M = mixed p (change_over (g.T.TakesTurn.turn c.args.turn.now) c.args.writes.now) in
    let same = sym c.written_name-at.ensures in
    ap₂ (λ x y. x || y)
    (ap (λ n. enters_chain F p KeyName.Any n c.args.chain.from c.args.chain.to) same ∙ c.in_ok-enters_chain.ensures full agrees ∙ c.if-branch.false)
    (ap (λ n. enters_chain F M KeyName.Any n c.args.chain.from c.args.chain.to) same ∙ c.in_ok-enters_chain-2.ensures full agrees)
