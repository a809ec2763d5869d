-- The pictures of an effect have at most 16 names.
use Rattle.std.specs.Prelude.{ℕ, ◌≤◌}
use Rattle.std.proofs.Common.{arith}
use Rattle.plank_prog.specs.declared.methods.Action.{Action}
use Rattle.plank_query.specs.declared.turns.SiteTurn.{SiteTurn}
use Rattle.plank_query.specs.declared.situations.Situation.{Situation}
use Rattle.plank_query.specs.Sites.{action_reads_below, action_reads}
use Rattle.plank_query.specs.Situations.{names}
use Rattle.plank_query.proofs.FewNames.{read_few}

fewer_read : (action : Action) (w : ℕ) → w ≤ 256 → action_reads_below action w ≤ action_reads action
fewer_read (Action.Block b) w few = read_few b w few
fewer_read (Action.Copy to from next) w few = omega arith
fewer_read (Action.New to next) w few = omega arith
fewer_read (Action.Return answer) w few = omega arith

pub few_site_names : (t : SiteTurn) → t.others ≤ 256 → names (Situation.Effect t) ≤ 16
few_site_names t within =
    let fewer = fewer_read t.action.now t.others within in
    let few = t.few in
    omega arith
