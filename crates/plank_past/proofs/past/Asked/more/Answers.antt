use Rattle.std.proofs.Common.{length}
use Rattle.plank_bits.specs.Words.{has}
use Rattle.plank_fact.specs.Forced.{outline}
use Rattle.plank_past.specs.Refuting.{IsRefutedBy}
use Rattle.plank_past.proofs.Growth.{grows_union}
use Rattle.plank_past.proofs.Refuted.{grows_all, goal_count}
use Rattle.plank_past.proofs.past.Asked.more.Goals as goal

pub returns-then-subset : goal.returns-then-subset
returns-then-subset g c = λ m x called of_method of_location.
    let O = outline c.args.self.now.program.now.header c.args.self.now.program.now.methods (has c.args.self.now.marks.now) in
    grows_all c.args.self.now.hinds.now.conclusions.now (IsRefutedBy O m c.args.self.now.hinds.now c.args.present x) (has c.numbers_below.result) (has c.args.refuted.now) (length c.args.self.now.goals.now)
    c.numbers_below.ensures (goal_count c.args.self.now.goals.now c.args.self.now.hinds.now.conclusions.now c.args.self.now.goals_fit) (c.subset.ensures.0 c.if-subset.true)

pub returns : goal.returns
returns g c = λ m x called of_method of_location.
    let O = outline c.args.self.now.program.now.header c.args.self.now.program.now.methods (has c.args.self.now.marks.now) in
    grows_union c.args.self.now.hinds.now.conclusions.now (IsRefutedBy O m c.args.self.now.hinds.now c.args.present x) (has c.args.refuted.now) _ (has c.union.result)
    (c.in_ok-found.ensures m x called of_method of_location) c.union.ensures
