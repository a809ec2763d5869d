-- Of stop nodes that no chain has nothing is asked.
use Rattle.std.proofs.Common.{◌≡◌, true, sym, ◌∙◌, subst}
use Rattle.std.specs.List.{list_all}
use Rattle.plank_lawful.specs.declared.families.Family.{Family}
use Rattle.plank_whole.specs.Wholes.{frame_of}
use Rattle.plank_whole.specs.Judging.{meets}
use Rattle.plank_lawful.specs.Lists.{rules_by_third}
use Rattle.plank_whole.proofs.Unpicked.{of_index, keeps_pass, keeps_on_pass, chain_of_index, ordered_pass}
use Rattle.plank_whole.proofs.wholes.Picture.keeps_pass.Goals as goal

pub returns-in-StopKeeps : goal.returns-in-StopKeeps
returns-in-StopKeeps c = λ e.
    let w = c.args.self.now in
    subst (λ rule. list_all (meets w) (rules_by_third (frame_of w) (Family.Kept rule) c.args.first c.args.second) ≡ true) (sym c.in-StopKeeps.is)
    (keeps_pass w c.args.first c.args.second (of_index w c.args.first c.args.second c.key_at.result c.key_at.ensures (sym c.picks_none.ensures ∙ e)))

pub returns-in-StopKeepsOn : goal.returns-in-StopKeepsOn
returns-in-StopKeepsOn c = λ e.
    let w = c.args.self.now in
    subst (λ rule. list_all (meets w) (rules_by_third (frame_of w) (Family.Kept rule) c.args.first c.args.second) ≡ true) (sym c.in-StopKeepsOn.is)
    (keeps_on_pass w c.args.first c.args.second (of_index w c.args.first c.args.second c.key_at-in-StopKeepsOn.result c.key_at-in-StopKeepsOn.ensures (sym c.picks_none-in-StopKeepsOn.ensures ∙ e)))

pub returns-in-Picks : goal.returns-in-Picks
returns-in-Picks c = λ e.
    let w = c.args.self.now in
    subst (λ rule. list_all (meets w) (rules_by_third (frame_of w) (Family.Kept rule) c.args.first c.args.second) ≡ true) (sym c.in-Picks.is)
    (ordered_pass w c.args.first c.args.second (chain_of_index w c.args.first c.args.second c.key_at-in-Picks.result c.key_at-in-Picks.ensures (sym c.chain_picks_neither.ensures ∙ e)))
