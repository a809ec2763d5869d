-- A sequential object: what it may answer in a state, and what a call leaves. Which lists of calls are legal.
use Rattle.std.specs.Prelude.{Bool, true, ◌&&◌, List, [], ◌∷◌}

pub record Object (State Input Answer : Type 0) : Type 0 where
  -- the state before any call
  pub first : State
  -- whether a call with this input may answer so in this state
  pub allows : State → Input → Answer → Bool
  -- the state that a call with this input leaves
  pub after : State → Input → State

-- a finished call
pub record Finished (Input Answer : Type 0) : Type 0 where
  pub input : Input
  pub answer : Answer

-- the state after these calls, one after another
abbrev pub replayed : {State Input Answer : Type 0} → Object State Input Answer → State → List (Finished Input Answer) → State
replayed object state [] = state
replayed object state (call ∷ calls) = replayed object (object.after state call.input) calls

-- whether each of these calls may answer as it did, in the state that the calls before it left
abbrev pub legal_from : {State Input Answer : Type 0} → Object State Input Answer → State → List (Finished Input Answer) → Bool
legal_from object state [] = true
legal_from object state (call ∷ calls) =
    object.allows state call.input call.answer && legal_from object (object.after state call.input) calls

-- whether these calls are a legal sequential history
abbrev pub legal : {State Input Answer : Type 0} → Object State Input Answer → List (Finished Input Answer) → Bool
legal object calls = legal_from object object.first calls
