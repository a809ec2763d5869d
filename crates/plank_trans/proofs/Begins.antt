-- The pictures where a method begins are those in which calls arrive, of which the claims of entry are right.
use Rattle.std.specs.Prelude.{◌≡◌, ℕ, zero, suc, ◌+◌, ◌<◌, Bool, true, false, List, [], length}
use Rattle.std.proofs.Common.{refl, sym, ◌∙◌, ap, subst, inl, inr, arith}
use Rattle.std.proofs.lemmas.Bool.{cases_eq, false≢true}
use Rattle.plank_bits.specs.Words.{has}
use Rattle.plank_prog.specs.declared.headers.Header.{Header}
use Rattle.plank_prog.specs.declared.methods.Method.{Method}
use Rattle.plank_prog.specs.declared.programs.Program.{Program}
use Rattle.plank_pic.specs.declared.parts.Part.{Part}
use Rattle.plank_pic.specs.declared.literals.Literal.{Literal}
use Rattle.plank_pic.specs.Pictures.{Picture}
use Rattle.plank_pic.specs.Lawful.{IsLawful}
use Rattle.plank_fact.specs.Tables.{name_count}
use Rattle.plank_fact.specs.OwnSteps.{frame_of, method_frame}
use Rattle.plank_fact.specs.After.{IsEntryPicture, IsAtEntry}
use Rattle.plank_fact.proofs.Monotone.{known_less}
use Rattle.plank_query.specs.declared.predicates.Claim.{Claim}
use Rattle.plank_query.specs.declared.predicates.Predicate.{Predicate}
use Rattle.plank_query.specs.declared.situations.Situation.{Situation}
use Rattle.plank_query.specs.Situations.{frame}
use Rattle.plank_claim.specs.Claims.{Adds}
use Rattle.plank_past.specs.Adding.{AddsOne}
use Rattle.plank_past.proofs.Asking.{no_claims}
use Rattle.plank_method.specs.Deciding.{outline_of, IsExact}
use Rattle.plank_shown.specs.Shown.{Arrives}
use Rattle.plank_follow.specs.Known.{IsPastIn, IsKnownFrom}
use Rattle.plank_trans.specs.Entry.{IsBeginning, AreOfEntry}

-- ---- claims

pub none_null : (first second : List Claim) → first ≡ [] → AddsOne first second (Predicate.Says Part.Spent) false → AreOfEntry 0 second
none_null first second empty adds h = λ S p. (
  λ right. let w = (subst (λ old. Adds h old second (λ S p. p Part.Spent ≡ false)) empty (adds h) S p).0 right in (w.0, (w.1, λ v below. absurd (omega (arith, below)))),
  λ both. (subst (λ old. Adds h old second (λ S p. p Part.Spent ≡ false)) empty (adds h) S p).1 (both.0, both.1.0),
)

pub one_null : (n : ℕ) (claims more : List Claim) → AreOfEntry n claims → AddsOne claims more (Predicate.Says (Part.Null (n + 1))) true → AreOfEntry (n + 1) more
one_null n claims more so adds h = λ S p. (
  λ right.
      let w = (adds h S p).0 right in
      let v = (so h S p).0 w.0 in (
        v.0,
        (
          v.1.0,
          λ i below. elim (cases_eq i n) [
            | inl same ↦ subst (λ k. p (Part.Null k) ≡ true) (let e : n + 1 ≡ suc i = omega (arith, same) in e) w.1
            | inr other ↦ v.1.1 i (omega (arith, below, other))
          ],
        ),
      ),
  λ both. (adds h S p).1 (
    (so h S p).1 (both.0, (both.1.0, λ i below. both.1.1 i (omega (arith, below)))),
    subst (λ k. p (Part.Null k) ≡ true) (let e : suc n ≡ n + 1 = omega arith in e) (both.1.1 n (omega arith)),
  ),
)

-- ---- pictures

module _ (h : Header) (m : Method) (variables : ℕ) (count : variables ≡ length m.variables) (claims : List Claim) (so : AreOfEntry variables claims) where
  abbrev S : Situation
  S = Situation.Names variables

  frame_so : frame h S ≡ method_frame h m
  frame_so = ap (λ n. frame_of h (suc n)) count

  begins_at : (p : Picture) → IsLawful (method_frame h m) p → IsBeginning variables S p → IsEntryPicture h m p
  begins_at p lawful w = record { lawful = lawful; null = null_so; unspent = w.0 }
    where
      null_so : (v : ℕ) → v < name_count m → 0 < v → p (Part.Null v) ≡ true
      null_so zero below some = absurd (omega (arith, some))
      null_so (suc v) below some = w.1 v (omega (arith, below, count))

  pub arrives_begins : (p : Picture) → Arrives h S claims p → IsEntryPicture h m p
  arrives_begins p w =
      let same : p ≡ w.before = w.situated.step in
      subst (λ q. IsEntryPicture h m q) (sym same) (begins_at w.before (subst (λ F. IsLawful F w.before) frame_so w.situated.lawful) ((so h S w.before).0 w.right).1)

  pub begins_arrives : (p : Picture) → IsEntryPicture h m p → Arrives h S claims p
  begins_arrives p e = record {
    before = p;
    situated = record { lawful = subst (λ F. IsLawful F p) (sym frame_so) e.lawful; fit = λ i below. refl; step = refl };
    right = (so h S p).1 (no_claims h S p, (e.unspent, λ v below. e.null (suc v) (omega (arith, below, count)) (omega arith)));
  }

-- what is known where nothing is carried
module _ (program : Program) (marks : List ℕ) (m : Method) (variables : ℕ) (count : variables ≡ length m.variables) (claims : List Claim) (so : AreOfEntry variables claims) (carried : ℕ → Bool)
    (none : (k : ℕ) → carried k ≡ false) where
  abbrev Begins : Picture → Type 0
  Begins = IsEntryPicture program.header m

  abbrev Comes : Picture → Type 0
  Comes = Arrives program.header (Situation.Names variables) claims

  abbrev Nothing : Literal → Type 0
  Nothing L = ⊥

  none_carried : (L : Literal) → IsPastIn program.header m carried L → ⊥
  none_carried L w = false≢true (sym (none w.0) ∙ w.2)

  pub entry_exact : (wanted known : ℕ → Bool) → IsExact program.header m wanted known (IsKnownFrom (outline_of program marks) m (Situation.Names variables) claims carried)
      → IsExact program.header m wanted known (IsAtEntry (outline_of program marks) m)
  entry_exact wanted known exact n f is wants = (
    λ e. known_less program.header program.methods (has marks) (has marks) (λ i b. b) m Begins Comes Nothing (IsPastIn program.header m carried) (begins_arrives program.header m variables count claims so) none_carried f ((exact n f is wants).0 e),
    λ k. (exact n f is wants).1 (known_less program.header program.methods (has marks) (has marks) (λ i b. b) m Comes Begins (IsPastIn program.header m carried) Nothing (arrives_begins program.header m variables count claims so) (λ L w. absurd w) f k),
  )
