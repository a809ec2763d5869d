-- The goals of named nodes: keeps that they break, and pointers that lead against their order.
use Rattle.std.specs.Prelude.{ℕ, List, [], ◌∷◌}
use Rattle.plank_query.specs.declared.goals.Goal.{Goal}
use Rattle.plank_query.specs.declared.goals.Moment.{Moment}
use Rattle.plank_query.specs.declared.predicates.Predicate.{Predicate}
use Rattle.plank_goals.specs.Lists.{gathered}

-- after the write the node i breaks the keep c
abbrev pub keep_goal : ℕ → ℕ → Goal
keep_goal i c = Goal.Fails Moment.After (Predicate.Keeps i c)

abbrev pub keeps_of : ℕ → ℕ → List Goal
keeps_of keeps i = gathered (λ c. keep_goal i c ∷ []) keeps

-- the pointer f of the node i leads to j against its order
abbrev pub order_goal : ℕ → ℕ → ℕ → Goal
order_goal i f j = Goal.LeadsAgainst i f j

abbrev pub orders_to : ℕ → ℕ → ℕ → List Goal
orders_to names i f = gathered (λ j. order_goal i f j ∷ []) names

abbrev pub orders_of : ℕ → ℕ → ℕ → List Goal
orders_of names pointers i = gathered (orders_to names i) pointers
