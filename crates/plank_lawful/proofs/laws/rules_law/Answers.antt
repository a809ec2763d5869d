-- The law, from its lemmas.
use Rattle.plank_lawful.proofs.LawfulMeets.{possible_meets, lawful_meets}
use Rattle.plank_lawful.proofs.MeetsLawful.{meets_possible, meets_lawful}
use Rattle.plank_lawful.proofs.Listed.{possible_listed, possible_all, lawful_listed, lawful_all}
use Rattle.plank_lawful.proofs.laws.rules_law.Goals as goal

pub returns : goal.returns
returns c = λ F p says. record {
  possible = (meets_possible F p says, possible_meets F p);
  lawful = (meets_lawful F p says, lawful_meets F p);
  possible_list = ((λ all. meets_possible F p says (possible_listed F p all)), (λ is. possible_all F p (possible_meets F p is)));
  lawful_list = ((λ all. meets_lawful F p says (lawful_listed F p all)), (λ is. lawful_all F p (lawful_meets F p is)));
}
