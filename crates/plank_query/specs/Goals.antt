-- What a question looks for in two pictures of a situation: that something said of one of them is false, or what an obligation
-- must not let happen.
use Rattle.std.specs.Prelude.{ℕ, Bool, true, false, not, ◌&&◌, ◌||◌}
use Rattle.std.specs.Option.{option_map_or}
use Rattle.plank_prog.specs.declared.headers.Header.{Header}
use Rattle.plank_prog.specs.declared.methods.Action.{Action}
use Rattle.plank_pic.specs.declared.parts.KeyName.{KeyName}
use Rattle.plank_pic.specs.declared.parts.Term.{Term}
use Rattle.plank_pic.specs.declared.parts.Part.{Part}
use Rattle.plank_pic.specs.Frames.{Frame}
use Rattle.plank_pic.specs.Pictures.{Picture, place, is_below}
use Rattle.plank_pic.specs.Lawful.{edge_is_ordered}
use Rattle.plank_pic.specs.Steps.{Change, mixed}
use Rattle.plank_pic.specs.Keeps.{enters_chain}
use Rattle.plank_pic.specs.Blocks.{Turn, comes_to_null}
use Rattle.plank_fact.specs.Writes.{becomes_shared, moves, turns_wrongly, is_apart}
use Rattle.plank_query.specs.declared.situations.Situation.{Situation}
use Rattle.plank_query.specs.declared.goals.Moment.{Moment}
use Rattle.plank_query.specs.declared.goals.Goal.{Goal}
use Rattle.plank_query.specs.Situations.{frame, turn, change}
use Rattle.plank_query.specs.Predicates.{holds}

-- the picture before the step or after it
abbrev pub picture_at : Moment → Picture → Picture → Picture
picture_at Moment.Before before after = before
picture_at Moment.After before after = after

-- the turn's block comes to a read or a write of a field of null
abbrev pub turn_comes_to_null : Frame → Turn → Action → Picture → Bool
turn_comes_to_null F s (Action.Block b) p = comes_to_null F s p b
turn_comes_to_null F s (Action.Copy to from next) p = false
turn_comes_to_null F s (Action.New to next) p = false
turn_comes_to_null F s (Action.Return answer) p = false

-- a pointer of the written node, or of one that becomes shared, leads against its order
abbrev pub leads_against : Frame → Picture → Picture → ℕ → ℕ → ℕ → Change → Bool
leads_against F before after node f to c =
    (before (Part.Same node c.at) || becomes_shared before after node) && not (edge_is_ordered F after (place node f) to)

-- a key lies strictly between two terms, and its walk enters the chain by the part before the write or by the new part
abbrev pub enters_between : Frame → Picture → ℕ → ℕ → Term → Term → Change → Bool
enters_between F before y q above below c =
    is_below before above (Term.Walked KeyName.Any) && is_below before (Term.Walked KeyName.Any) below
    && (enters_chain F before KeyName.Any c.at y q || enters_chain F (mixed before c) KeyName.Any c.at y q)

-- the change is one of which the test is true
abbrev pub writes_so : Situation → (Change → Bool) → Bool
writes_so S test = option_map_or test (change S) false

abbrev pub goal_holds : Header → Situation → Picture → Picture → Goal → Bool
goal_holds h S before after Goal.Anything = true
goal_holds h S before after (Goal.Fails moment predicate) = not (holds h S (picture_at moment before after) predicate)
goal_holds h S before after Goal.ComesToNull = option_map_or (λ s. turn_comes_to_null (frame h S) s s.action before) (turn S) false
goal_holds h S before after (Goal.LeadsAgainst node f to) = writes_so S (leads_against (frame h S) before after node f to)
goal_holds h S before after Goal.MovesApart = writes_so S (λ c. is_apart (moves (frame h S) c before))
goal_holds h S before after (Goal.TurnsWrongly kind) = writes_so S (λ c. turns_wrongly kind before (moves (frame h S) c before))
goal_holds h S before after (Goal.EntersChain y q above below) = writes_so S (enters_between (frame h S) before y q above below)
