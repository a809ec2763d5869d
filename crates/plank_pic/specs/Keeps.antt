-- What the obligations of a write say of one write step, for one walked key: keeps of named nodes and of nodes inside a
-- chain that is entered, the order of the written node's pointers, and that no key moves apart. Soundness uses it.
use Rattle.std.specs.Prelude.{◌≡◌, ℕ, ◌<◌, ◌==◌, Bool, true, false, not, ◌&&◌, ◌||◌, length, Option, Some, None}
use Rattle.std.specs.Option.{option_map_or}
use Rattle.plank_prog.specs.declared.conditions.KeyTerm.{KeyTerm}
use Rattle.plank_prog.specs.declared.headers.KeyOrder.{KeyOrder}
use Rattle.plank_prog.specs.Conditions.{View}
use Rattle.plank_pic.specs.declared.parts.KeyName.{KeyName}
use Rattle.plank_pic.specs.declared.parts.Term.{Term}
use Rattle.plank_pic.specs.declared.parts.Part.{Part}
use Rattle.plank_pic.specs.Frames.{Frame}
use Rattle.plank_pic.specs.declared.parts.Target.{Target}
use Rattle.plank_pic.specs.Pictures.{Picture, place, target, is_frozen_view}
use Rattle.plank_pic.specs.Lawful.{place_fits, term_fits, ◌⇒◌, keep_holds, node_keeps, order_of, edge_is_ordered}
use Rattle.plank_pic.specs.Outcomes.{passes}
use Rattle.plank_pic.specs.declared.moves.Moved.{Moved}
use Rattle.plank_pic.specs.Steps.{Change, mixed, movement}

-- the end of a chain that a target enters
abbrev pub chain_of : Target → Option ℕ
chain_of Target.Ends = None
chain_of (Target.To j) = None
chain_of (Target.Out x) = None
chain_of (Target.Stops y q s) = Some q
chain_of (Target.Jumps q) = Some q

-- the part from `at` enters a chain from y to q
abbrev pub enters_chain : Frame → Picture → KeyName → ℕ → ℕ → ℕ → Bool
enters_chain F p k at y q = passes F p k at y && option_map_or (λ e. e == q) (chain_of (target F p k y)) false

-- ---- a node without a name, by its view and its place in the order of keys

-- at or below which terms its key lies, and at or above which
pub record Placed : Type 0 where
  pub at_most : Term → Bool
  pub at_least : Term → Bool

-- how the terms of conditions compare there
abbrev pub placed_order : Picture → KeyName → Placed → KeyTerm → KeyTerm → Bool
placed_order p k at KeyTerm.Node KeyTerm.Node = true
placed_order p k at KeyTerm.Node KeyTerm.Walked = at.at_most (Term.Walked k)
placed_order p k at KeyTerm.Node KeyTerm.Min = at.at_most Term.Min
placed_order p k at KeyTerm.Node KeyTerm.Max = at.at_most Term.Max
placed_order p k at KeyTerm.Walked KeyTerm.Node = at.at_least (Term.Walked k)
placed_order p k at KeyTerm.Walked KeyTerm.Walked = p (Part.AtMost (Term.Walked k) (Term.Walked k))
placed_order p k at KeyTerm.Walked KeyTerm.Min = p (Part.AtMost (Term.Walked k) Term.Min)
placed_order p k at KeyTerm.Walked KeyTerm.Max = p (Part.AtMost (Term.Walked k) Term.Max)
placed_order p k at KeyTerm.Min KeyTerm.Node = at.at_least Term.Min
placed_order p k at KeyTerm.Min KeyTerm.Walked = p (Part.AtMost Term.Min (Term.Walked k))
placed_order p k at KeyTerm.Min KeyTerm.Min = p (Part.AtMost Term.Min Term.Min)
placed_order p k at KeyTerm.Min KeyTerm.Max = p (Part.AtMost Term.Min Term.Max)
placed_order p k at KeyTerm.Max KeyTerm.Node = at.at_least Term.Max
placed_order p k at KeyTerm.Max KeyTerm.Walked = p (Part.AtMost Term.Max (Term.Walked k))
placed_order p k at KeyTerm.Max KeyTerm.Min = p (Part.AtMost Term.Max Term.Min)
placed_order p k at KeyTerm.Max KeyTerm.Max = p (Part.AtMost Term.Max Term.Max)

-- strictly between two names, as the order along a pointer says
abbrev pub lies_between : KeyOrder → Placed → ℕ → ℕ → Bool
lies_between KeyOrder.Ascending at y q = not (at.at_most (Term.Node y)) && not (at.at_least (Term.Node q))
lies_between KeyOrder.Descending at y q = not (at.at_least (Term.Node y)) && not (at.at_most (Term.Node q))
lies_between KeyOrder.Free at y q = true

-- the view of a frozen node that may lie inside a chain from y to q
pub record IsInner (F : Frame) (p : Picture) (k : KeyName) (y q : ℕ) (v : View) (at : Placed) : Type 0 where
  pub total : (t : Term) → term_fits F t ≡ true → (at.at_most t || at.at_least t) ≡ true
  pub up : (s t : Term) → term_fits F s ≡ true → term_fits F t ≡ true → ((at.at_most s && p (Part.AtMost s t)) ⇒ at.at_most t) ≡ true
  pub down : (s t : Term) → term_fits F s ≡ true → term_fits F t ≡ true → ((p (Part.AtMost s t) && at.at_least t) ⇒ at.at_least s) ≡ true
  pub through : (s t : Term) → term_fits F s ≡ true → term_fits F t ≡ true → ((at.at_least s && at.at_most t) ⇒ p (Part.AtMost s t)) ≡ true
  pub order : (a b : KeyTerm) → v.at_most a b ≡ placed_order p k at a b
  pub frozen : is_frozen_view F.header v ≡ true
  pub pointer : v.null 0 ≡ false
  pub ends : (at.at_least Term.Min && at.at_most Term.Max) ≡ true
  pub between : lies_between (order_of F 0) at y q ≡ true

-- the view with this visit bit meets every keep
abbrev pub MeetsAll : Frame → View → Bool → Type 0
MeetsAll F v b = (c : ℕ) → c < length F.header.keeps → keep_holds F.header (record v { visited = b }) c ≡ true

-- ---- the step

-- no obligation on nodes, pointers and keys fails at a write from B to W, for the key k
pub record IsKeptWrite (F : Frame) (c : Change) (B W : Picture) (k : KeyName) : Type 0 where
  -- nodes that have names
  pub named : (i n : ℕ) → i < F.names → n < length F.header.keeps → node_keeps F W k i n ≡ true
  -- nodes inside chains that the part before or the new part enters
  pub inside : (y q : ℕ) (v : View) (at : Placed) (b : Bool) → (enters_chain F B k c.at y q || enters_chain F (mixed B c) k c.at y q) ≡ true → IsInner F B k y q v at → MeetsAll F v b → MeetsAll F v (not b)
  pub order : (f j : ℕ) → place_fits F (place c.at f) ≡ true → j < F.names → edge_is_ordered F W (place c.at f) j ≡ true
  pub footprint : movement F B (mixed B c) k c.at ≡ Moved.Apart → ⊥
