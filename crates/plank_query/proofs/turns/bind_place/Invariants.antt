use Rattle.std.proofs.Common.{◌≡◌, ◌+◌, drop}
use Rattle.plank_pic.specs.Calls.{bind_place}
use Rattle.plank_query.proofs.turns.bind_place.Given as goal

-- those that are passed, and the place among what is left, make the place
abbrev pub invariant-loop-bind : goal.invariant-loop-bind
invariant-loop-bind l = (l.place ≡ l.bind-index) × (l.place + bind_place l.variable (drop l.bind-index l.binds) ≡ bind_place l.variable l.binds)
