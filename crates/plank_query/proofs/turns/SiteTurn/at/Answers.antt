use Rattle.plank_query.proofs.turns.SiteTurn.at.Goals as goal

pub returns-in-None-clause-none : goal.returns-in-None-clause-none
returns-in-None-clause-none c = λ none m x called of_method of_location writes. c.in-None.ensures.none none x of_method of_location
