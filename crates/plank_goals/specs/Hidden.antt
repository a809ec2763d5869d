-- The goals of nodes inside chains.
use Rattle.std.specs.Prelude.{ℕ, List, [], ◌==◌, length, Option, option_map, if◌then◌else◌}
use Rattle.plank_prog.specs.declared.headers.Header.{Header}
use Rattle.plank_prog.specs.declared.headers.KeyOrder.{KeyOrder}
use Rattle.plank_pic.specs.declared.parts.Term.{Term}
use Rattle.plank_query.specs.declared.goals.Goal.{Goal}
use Rattle.plank_goals.specs.declared.spots.Spot.{Spot}
use Rattle.plank_goals.specs.Lists.{gathered, listed}
use Rattle.plank_goals.specs.Spots.{spot_at, room, first_order, some_tell}

-- a walked key enters the chain that may have a node there
abbrev pub chain_goal : KeyOrder → Spot → ℕ → ℕ → Option Goal
chain_goal order spot y q = option_map (λ (r : Term × Term). Goal.EntersChain y q r.0 r.1) (room order spot y q)

abbrev pub chains_to : KeyOrder → Spot → ℕ → ℕ → List Goal
chains_to order spot names y = gathered (λ q. listed (chain_goal order spot y q)) names

abbrev pub chains_of : KeyOrder → Spot → ℕ → List Goal
chains_of order spot names = gathered (chains_to order spot names) names

abbrev pub spot_goals : Header → KeyOrder → ℕ → Spot → List Goal
spot_goals h order names spot = if some_tell h spot then chains_of order spot names else []

-- chains are there where the structure has one pointer field
abbrev pub hidden_goals : Header → ℕ → List Goal
hidden_goals h names =
    if length h.pointers == 1 then gathered (λ n. spot_goals h (first_order h) names (spot_at n)) 5 else []
