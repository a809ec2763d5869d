-- When each obligation fails at the marks of an outline, and the verdict: none fails, or the first that does.
use Rattle.std.specs.Prelude.{◌≡◌, ℕ, ◌<◌, Bool, true, false, not, ◌&&◌, List, [], ◌∷◌, slice_get, Some, None}
use Rattle.plank_base.specs.declared.obligations.Kind.{Kind}
use Rattle.plank_base.specs.declared.obligations.Obligation.{Obligation}
use Rattle.plank_base.specs.declared.operations.Op.{Op}
use Rattle.plank_prog.specs.declared.blocks.Block.{Block}
use Rattle.plank_prog.specs.declared.headers.Header.{Header}
use Rattle.plank_prog.specs.declared.methods.Action.{Action}
use Rattle.plank_prog.specs.declared.methods.MethodKind.{MethodKind}
use Rattle.plank_pic.specs.declared.literals.Exit.{Exit}
use Rattle.plank_pic.specs.declared.literals.Literal.{Literal}
use Rattle.plank_pic.specs.declared.parts.KeyName.{KeyName}
use Rattle.plank_pic.specs.declared.parts.Part.{Part}
use Rattle.plank_pic.specs.Pictures.{Picture, node_view, view_admits}
use Rattle.plank_pic.specs.Lawful.{IsLawful}
use Rattle.plank_pic.specs.Steps.{Change}
use Rattle.plank_pic.specs.Blocks.{change_of, comes_to_null}
use Rattle.plank_pic.specs.Truths.{is_owned}
use Rattle.plank_fact.specs.declared.facts.Fact.{Fact}
use Rattle.plank_fact.specs.Outlines.{Outline, Point, IsMarked}
use Rattle.plank_fact.specs.OwnSteps.{own_frame, turn_at, IsOwnPicture}
use Rattle.plank_fact.specs.Start.{StartFails}
use Rattle.plank_fact.specs.ObligationList.{obligations}
use Rattle.plank_fact.specs.Writes.{PublishFails, KeepFails, OrderFails, FootprintFails, ChangeFails}

-- ---- edges: some shared node has two pointer fields whose conditions admit one key, null or not

pub record EdgesFail (h : Header) : Type 0 where
  pub picture : Picture
  pub lawful : IsLawful (record { header = h; names = 1; root = None }) picture
  pub named : picture (Part.Null 0) ≡ false
  pub shared : picture (Part.Shared 0) ≡ true
  pub first : ℕ
  pub second : ℕ
  pub apart : first < second
  pub first_admits : view_admits h (node_view picture KeyName.Any 0) first ≡ true
  pub second_admits : view_admits h (node_view picture KeyName.Any 0) second ≡ true

-- ---- null: in some own picture the block reads or writes a field of null

pub record NullFails (O : Outline) (x : Point O.methods) : Type 0 where
  pub block : Block
  pub here : x.location.action ≡ Action.Block block
  pub picture : Picture
  pub own : IsOwnPicture O x picture
  pub reads : comes_to_null (own_frame O x) (turn_at O x Exit.Yes) picture block ≡ true

-- ---- target: it is not known that the written node is the thread's own, and not known that it is shared

pub record SomeOwnPicture (O : Outline) (x : Point O.methods) (test : Picture → Bool) : Type 0 where
  pub picture : Picture
  pub own : IsOwnPicture O x picture
  pub is : test picture ≡ true

pub record TargetFails (O : Outline) (x : Point O.methods) : Type 0 where
  pub change : Change
  pub writes : change_of (turn_at O x Exit.Yes) ≡ Some change
  pub not_own : SomeOwnPicture O x (λ p. not (p (Part.Null change.at)) && not (is_owned p true change.at))
  pub not_shared : SomeOwnPicture O x (λ p. not (p (Part.Null change.at)) && not (p (Part.Shared change.at)))

-- ---- answer: a fact that the answer needs is not claimed at the return

abbrev pub needed_for : Op → Bool → List Fact
needed_for Op.Insert true = Fact.Now Literal.Spent ∷ []
needed_for Op.Insert false = Fact.Now Literal.Unspent ∷ Fact.Past Literal.InSet ∷ []
needed_for Op.Delete true = Fact.Now Literal.Spent ∷ []
needed_for Op.Delete false = Fact.Now Literal.Unspent ∷ Fact.Past Literal.NotInSet ∷ []
needed_for Op.Contains true = Fact.Past Literal.InSet ∷ []
needed_for Op.Contains false = Fact.Past Literal.NotInSet ∷ []

pub record AnswerFails (O : Outline) (x : Point O.methods) : Type 0 where
  pub op : Op
  pub answer : Bool
  pub of_method : x.method.kind ≡ MethodKind.Set op
  pub returns : x.location.action ≡ Action.Return answer
  pub number : ℕ
  pub fact : Fact
  pub needed : slice_get (needed_for op answer) number ≡ Some fact
  pub marked : IsMarked O x fact

-- ---- all kinds

-- an obligation of a location fails; start and edges are of no location
abbrev pub FailsThere : Kind → (O : Outline) → Point O.methods → Type 0
FailsThere Kind.Start O x = ⊥
FailsThere Kind.Edges O x = ⊥
FailsThere Kind.Null O x = NullFails O x
FailsThere Kind.Target O x = TargetFails O x
FailsThere Kind.Publish O x = PublishFails O x
FailsThere Kind.Keep O x = KeepFails O x
FailsThere Kind.Order O x = OrderFails O x
FailsThere Kind.Footprint O x = FootprintFails O x
FailsThere Kind.Change O x = ChangeFails O x
FailsThere Kind.Answer O x = AnswerFails O x

pub record FailsAtItsPoint (O : Outline) (o : Obligation) : Type 0 where
  pub at : Point O.methods
  pub same_method : at.m ≡ o.method
  pub same_location : at.l ≡ o.location
  pub fails : FailsThere o.kind O at

abbrev pub FailsAs : Kind → Outline → Obligation → Type 0
FailsAs Kind.Start O o = StartFails O.header
FailsAs Kind.Edges O o = EdgesFail O.header
FailsAs kind O o = FailsAtItsPoint O o

abbrev pub Fails : Outline → Obligation → Type 0
Fails O o = FailsAs o.kind O o

-- ---- the verdict

-- every obligation of the program holds
abbrev pub AllHold : Outline → Type 0
AllHold O = (i : ℕ) (o : Obligation) → slice_get (obligations O.methods) i ≡ Some o → Fails O o → ⊥

-- an obligation of the program that fails, and each before it holds
pub record IsFirstFailing (O : Outline) (o : Obligation) : Type 0 where
  pub number : ℕ
  pub there : slice_get (obligations O.methods) number ≡ Some o
  pub fails : Fails O o
  pub first : (i : ℕ) (earlier : Obligation) → i < number → slice_get (obligations O.methods) i ≡ Some earlier → Fails O earlier → ⊥
