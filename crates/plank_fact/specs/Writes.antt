-- What may go wrong with a write: the obligations of kinds publish to change, which look at a step whose binds set no
-- variable.
use Rattle.std.specs.Prelude.{◌≡◌, ◌⊎◌, ℕ, Bool, true, false, not, ◌&&◌, ◌||◌, Some}
use Rattle.std.specs.Bool.{beq}
use Rattle.plank_base.specs.declared.operations.Op.{Op}
use Rattle.plank_prog.specs.declared.methods.MethodKind.{MethodKind}
use Rattle.plank_pic.specs.declared.literals.Exit.{Exit}
use Rattle.plank_pic.specs.declared.parts.KeyName.{KeyName}
use Rattle.plank_pic.specs.declared.parts.Term.{Term}
use Rattle.plank_pic.specs.declared.parts.Part.{Part}
use Rattle.plank_pic.specs.Frames.{Frame}
use Rattle.plank_pic.specs.Pictures.{Picture, place, same_key}
use Rattle.plank_pic.specs.Lawful.{node_keeps, edge_is_ordered}
use Rattle.plank_pic.specs.Blocks.{change_of}
use Rattle.plank_pic.specs.declared.moves.Moved.{Moved}
use Rattle.plank_pic.specs.Steps.{Change, mixed, movement}
use Rattle.plank_fact.specs.Outlines.{Outline, Point}
use Rattle.plank_fact.specs.OwnSteps.{own_frame, turn_at, IsWriteStep}
use Rattle.plank_fact.specs.Hidden.{HiddenKeepFails}

-- some step of the write goes wrong in this way
pub record SomeWrite (O : Outline) (x : Point O.methods) (IsWrong : Change → Picture → Picture → Type 0) : Type 0 where
  pub change : Change
  pub writes : change_of (turn_at O x Exit.Yes) ≡ Some change
  pub before : Picture
  pub after : Picture
  pub step : IsWriteStep O x before after
  pub wrong : IsWrong change before after

abbrev pub becomes_shared : Picture → Picture → ℕ → Bool
becomes_shared before after i = not (before (Part.Shared i)) && after (Part.Shared i)

-- ---- publish: a node that becomes shared has a pointer to a node that is not shared

pub record PublishesOwn (before after : Picture) : Type 0 where
  pub node : ℕ
  pub pointer : ℕ
  pub to : ℕ
  pub shared : becomes_shared before after node ≡ true
  pub leads : after (Part.Leads (place node pointer) to) ≡ true
  pub own : after (Part.Shared to) ≡ false

-- ---- keep: a shared node breaks a keep for the generic key, named or inside a chain

abbrev pub BreaksKeep : Frame → Change → Picture → Picture → Type 0
BreaksKeep F c before after =
    ((i : ℕ) × (n : ℕ) × (node_keeps F after KeyName.Any i n ≡ false)) ⊎ HiddenKeepFails F c KeyName.Any before

-- ---- order: a pointer of the written node, or of one that becomes shared, leads against its order

pub record BreaksOrder (F : Frame) (c : Change) (before after : Picture) : Type 0 where
  pub node : ℕ
  pub pointer : ℕ
  pub to : ℕ
  pub touched : (before (Part.Same node c.at) || becomes_shared before after node) ≡ true
  pub against : edge_is_ordered F after (place node pointer) to ≡ false

-- ---- footprint and change: how the write moves the walk of the generic key

abbrev pub moves : Frame → Change → Picture → Moved
moves F c before = movement F before (mixed before c) KeyName.Any c.at

-- the call's own key, before the call has changed the set
abbrev pub is_first_of_call : Picture → Bool
is_first_of_call before = same_key before (Term.Walked KeyName.Any) (Term.Walked KeyName.Own) && not (before Part.Spent)

-- whether a method may turn a key's membership from what it was; an upkeep never may
abbrev pub may_turn : MethodKind → Picture → Bool → Bool
may_turn (MethodKind.Set Op.Contains) before was = false
may_turn (MethodKind.Set Op.Insert) before was = is_first_of_call before && not was
may_turn (MethodKind.Set Op.Delete) before was = is_first_of_call before && was
may_turn MethodKind.Upkeep before was = false

abbrev pub turns_wrongly : MethodKind → Picture → Moved → Bool
turns_wrongly k before Moved.Untouched = false
turns_wrongly k before Moved.Same = false
turns_wrongly k before (Moved.BothEnd was is) = not (beq (before (Part.InSet KeyName.Any)) is) && not (may_turn k before (before (Part.InSet KeyName.Any)))
turns_wrongly k before Moved.Apart = true

abbrev pub is_apart : Moved → Bool
is_apart Moved.Untouched = false
is_apart Moved.Same = false
is_apart (Moved.BothEnd was is) = false
is_apart Moved.Apart = true

-- ---- the five obligations

abbrev pub PublishFails : (O : Outline) → Point O.methods → Type 0
PublishFails O x = SomeWrite O x (λ c before after. PublishesOwn before after)

abbrev pub KeepFails : (O : Outline) → Point O.methods → Type 0
KeepFails O x = SomeWrite O x (BreaksKeep (own_frame O x))

abbrev pub OrderFails : (O : Outline) → Point O.methods → Type 0
OrderFails O x = SomeWrite O x (BreaksOrder (own_frame O x))

abbrev pub FootprintFails : (O : Outline) → Point O.methods → Type 0
FootprintFails O x = SomeWrite O x (λ c before after. is_apart (moves (own_frame O x) c before) ≡ true)

abbrev pub ChangeFails : (O : Outline) → Point O.methods → Type 0
ChangeFails O x = SomeWrite O x (λ c before after. turns_wrongly x.method.kind before (moves (own_frame O x) c before) ≡ true)
