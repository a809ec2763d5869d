-- The rules of the list say what a possible picture is.
use Rattle.std.proofs.Common.{sym, ◌∙◌}
use Rattle.std.proofs.lemmas.List.Sums.{AllPass-from_list_all, list_all-from_AllPass}
use Rattle.plank_lawful.specs.Lists.{rules_of_possible}
use Rattle.plank_lawful.proofs.LawfulMeets.{possible_meets}
use Rattle.plank_lawful.proofs.MeetsLawful.{meets_possible}
use Rattle.plank_lawful.proofs.Listed.{possible_listed, possible_all}
use Rattle.plank_whole.specs.Wholes.{frame_of, shown}
use Rattle.plank_whole.specs.Judging.{meets}
use Rattle.plank_whole.proofs.Said.{says_no_outside}
use Rattle.plank_whole.proofs.wholes.Picture.possible.Goals as goal

pub returns : goal.returns
returns c =
    let w = c.args.self.now in
    let F = frame_of w in
    let rules = rules_of_possible F in (
      (λ e. meets_possible F (shown w) (says_no_outside F w.said) (possible_listed F (shown w) (AllPass-from_list_all (meets w) rules (sym c.meets_possible.ensures ∙ e)))),
      λ is. c.meets_possible.ensures ∙ list_all-from_AllPass (meets w) rules (possible_all F (shown w) (possible_meets F (shown w) is)),
    )
