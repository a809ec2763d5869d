-- Marks that a method forces, closed marks and the least marks of a program; and the same positively, as outlines in which
-- each claim is justified. Soundness takes these, searches find the others.
use Rattle.std.specs.Prelude.{◌≡◌, ◌⊎◌, ℕ, ◌<◌, Bool, true, false, List, length}
use Rattle.plank_bits.specs.Forced.{IsLeast}
use Rattle.plank_prog.specs.declared.headers.Header.{Header}
use Rattle.plank_prog.specs.declared.methods.Method.{Method}
use Rattle.plank_pic.specs.declared.literals.Literal.{Literal}
use Rattle.plank_pic.specs.declared.literals.Exit.{Exit}
use Rattle.plank_pic.specs.Pictures.{Picture}
use Rattle.plank_pic.specs.Calls.{is_usable}
use Rattle.plank_pic.specs.Truths.{truth}
use Rattle.plank_fact.specs.declared.facts.Fact.{Fact}
use Rattle.plank_fact.specs.Tables.{name_count}
use Rattle.plank_fact.specs.Outlines.{Outline, Point, IsMarkOf, IsClaimed}
use Rattle.plank_fact.specs.OwnSteps.{own_call, LeadsTo}
use Rattle.plank_fact.specs.Effects.{IsEffect}
use Rattle.plank_fact.specs.After.{IsAfter, IsAtEntry}

-- ---- what other calls break

-- a literal is false after some effect, before which all that is claimed at the location was true; past facts are never broken
pub record IsBroken (O : Outline) (x : Point O.methods) (L : Literal) : Type 0 where
  pub site : Point O.methods
  pub before : Picture
  pub after : Picture
  pub effect : IsEffect O x.method site before after
  pub claimed : (K : Literal) → IsClaimed O x (Fact.Now K) → truth before (own_call x.method) K ≡ true
  pub usable : (i : ℕ) → i < name_count x.method → is_usable before i ≡ true
  pub false_after : truth after (own_call x.method) L ≡ false

-- ---- what is forced

-- it holds, or is refuted
abbrev pub IsDecided : Type 0 → Type 0
IsDecided A = A ⊎ (A → ⊥)

-- the fact is not to be claimed at the location
pub data IsRefuted (O : Outline) (x : Point O.methods) : Fact → Type 0 where
  -- the method begins there, and a call that begins does not have it
  at_entry : {f : Fact} → x.l ≡ 0 → (IsAtEntry O x.method f → ⊥) → IsRefuted O x f
  -- a step leads there, after which a call does not have it
  after : {f : Fact} (from : Point O.methods) (e : Exit) → LeadsTo from e x → (IsAfter O from e f → ⊥) → IsRefuted O x f
  -- a step of another call may break it
  broken : {L : Literal} → IsBroken O x L → IsRefuted O x (Fact.Now L)

abbrev pub outline : Header → List Method → (ℕ → Bool) → Outline
outline h methods marks = record { header = h; methods = methods; marks = marks }

-- the m-th method forces the mark k of a fact at one of its locations: it is set already, or the fact is refuted
pub record Forces (h : Header) (methods : List Method) (m : ℕ) (marks : ℕ → Bool) (k : ℕ) : Type 0 where
  pub at : Point methods
  pub of_method : at.m ≡ m
  pub fact : Fact
  pub is : IsMarkOf h at fact k
  pub forced : (marks k ≡ true) ⊎ IsRefuted (outline h methods marks) at fact

-- the least marks: each method forces no others, and they lie within all marks of which that is so
abbrev pub AreLeastMarks : Header → List Method → (ℕ → Bool) → Type 0
AreLeastMarks h methods = IsLeast (Forces h methods) (length methods)

-- ---- the same of what is claimed: an outline in which each claim is justified

pub record IsValid (O : Outline) : Type 0 where
  pub entry : (x : Point O.methods) (f : Fact) → x.l ≡ 0 → IsClaimed O x f → IsAtEntry O x.method f
  pub after : (from x : Point O.methods) (e : Exit) (f : Fact) → LeadsTo from e x → IsClaimed O x f → IsAfter O from e f
  pub kept : (x : Point O.methods) (L : Literal) → IsClaimed O x (Fact.Now L) → IsBroken O x L → ⊥
