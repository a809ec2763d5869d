-- Of a stop node that no chain has nothing is asked.
use Rattle.std.proofs.Common.{◌≡◌, true, sym, ◌∙◌, subst}
use Rattle.std.specs.List.{list_all}
use Rattle.plank_lawful.specs.declared.families.Family.{Family}
use Rattle.plank_whole.specs.Wholes.{frame_of}
use Rattle.plank_whole.specs.Judging.{meets}
use Rattle.plank_lawful.specs.Lists.{rules_by_third}
use Rattle.plank_whole.proofs.Unpicked.{of_index, stops_pass}
use Rattle.plank_whole.proofs.wholes.Picture.walks_pass.Goals as goal

pub returns-in-Stops : goal.returns-in-Stops
returns-in-Stops c = λ e.
    let w = c.args.self.now in
    subst (λ rule. list_all (meets w) (rules_by_third (frame_of w) (Family.Walks rule) c.args.first c.args.second) ≡ true) (sym c.in-Stops.is)
    (stops_pass w c.args.first c.args.second (of_index w c.args.first c.args.second c.key_at.result c.key_at.ensures (sym c.picks_none.ensures ∙ e)))
