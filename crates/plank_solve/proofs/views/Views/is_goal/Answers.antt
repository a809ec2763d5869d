-- The frame of the numbering is that of the situation.
use Rattle.std.proofs.Common.{refl}
use Rattle.plank_parts.specs.declared.sides.Side.{Side}
use Rattle.plank_parts.specs.Numbers.{picture_of}
use Rattle.plank_search.specs.Assignments.{value_at}
use Rattle.plank_query.specs.declared.goals.Goal.{Goal}
use Rattle.plank_solve.proofs.Rounds.{goal_settles}
use Rattle.plank_solve.proofs.views.Views.is_goal.Goals as goal

pub returns-in-MovesApart : goal.returns-in-MovesApart
returns-in-MovesApart c =
    goal_settles c.args.self.numbering.now.frame c.args.situation.now (picture_of c.args.self.numbering.now Side.Before) (picture_of c.args.self.numbering.now Side.After) (value_at c.args.self.values.now)
    c.is_changed_so-in-MovesApart.result c.args.goal Goal.MovesApart c.requires c.in-MovesApart.is (λ full. refl) c.is_changed_so-in-MovesApart.ensures

pub returns-in-TurnsWrongly : goal.returns-in-TurnsWrongly
returns-in-TurnsWrongly c =
    goal_settles c.args.self.numbering.now.frame c.args.situation.now (picture_of c.args.self.numbering.now Side.Before) (picture_of c.args.self.numbering.now Side.After) (value_at c.args.self.values.now)
    c.is_changed_so-in-TurnsWrongly.result c.args.goal _ c.requires c.in-TurnsWrongly.is (λ full. refl) c.is_changed_so-in-TurnsWrongly.ensures

pub returns-in-EntersChain : goal.returns-in-EntersChain
returns-in-EntersChain c =
    goal_settles c.args.self.numbering.now.frame c.args.situation.now (picture_of c.args.self.numbering.now Side.Before) (picture_of c.args.self.numbering.now Side.After) (value_at c.args.self.values.now)
    c.is_changed_so-in-EntersChain.result c.args.goal _ c.requires c.in-EntersChain.is (λ full. refl) c.is_changed_so-in-EntersChain.ensures
