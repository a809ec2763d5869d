-- The more marks are set, the less is claimed, and the more a unit forces.
use Rattle.std.specs.Prelude.{◌≡◌, ℕ, Bool, true, false, List}
use Rattle.std.proofs.Common.{sym, ◌∙◌, inl, inr}
use Rattle.std.proofs.lemmas.Bool.{true≢false, false_from_ne_true}
use Rattle.plank_bits.specs.Words.{IsWithin}
use Rattle.plank_bits.specs.Forced.{IsMonotone}
use Rattle.plank_prog.specs.declared.headers.Header.{Header}
use Rattle.plank_prog.specs.declared.methods.Method.{Method}
use Rattle.plank_pic.specs.declared.literals.Literal.{Literal}
use Rattle.plank_pic.specs.declared.literals.Exit.{Exit}
use Rattle.plank_pic.specs.Pictures.{Picture}
use Rattle.plank_fact.specs.declared.facts.Fact.{Fact}
use Rattle.plank_fact.specs.Outlines.{Outline, Point, IsClaimed}
use Rattle.plank_fact.specs.OwnSteps.{IsOwnStep}
use Rattle.plank_fact.specs.Effects.{IsEffect}
use Rattle.plank_fact.specs.After.{IsCarried, IsPictureAfter, IsAfter, IsAtEntry}
use Rattle.plank_fact.specs.Forced.{outline, IsBroken}
use Rattle.plank_fact.proofs.Monotone.{known_less}
use Rattle.plank_unit.specs.Units.{IsRefutedBySteps, at_entry, after, IsBrokenFact, IsForcedThere, UnitForces, by_steps, by_others}

module _ (h : Header) (methods : List Method) (a b : ℕ → Bool) (within : IsWithin a b) where
  claimed_less : (x : Point methods) (f : Fact) → IsClaimed (outline h methods b) x f → IsClaimed (outline h methods a) x f
  claimed_less x f c = record { mark = c.mark; of_fact = c.of_fact; is = false_from_ne_true (a c.mark) (λ e. true≢false (sym (within c.mark e) ∙ c.is)) }

  own_step_more : (x : Point methods) (e : Exit) (p q : Picture) → IsOwnStep (outline h methods a) x e p q → IsOwnStep (outline h methods b) x e p q
  own_step_more x e p q s = record {
    own = record { picture = s.own.picture; claimed = λ L c. s.own.claimed L (claimed_less x (Fact.Now L) c) };
    step = s.step;
  }

  effect_more : (m : Method) (site : Point methods) (p q : Picture) → IsEffect (outline h methods a) m site p q → IsEffect (outline h methods b) m site p q
  effect_more m site p q e = record {
    writes = e.writes;
    block = e.block;
    here = e.here;
    lawful = e.lawful;
    others = e.others;
    claimed = λ L c known. e.claimed L (claimed_less site (Fact.Now L) c) known;
    step = e.step;
  }

  carried_less : (x : Point methods) (e : Exit) (L : Literal) → IsCarried (outline h methods b) x e L → IsCarried (outline h methods a) x e L
  carried_less x e L c = record {
    before = c.before;
    claimed = claimed_less x (Fact.Past c.before) c.claimed;
    to = c.to;
    is = c.is;
    stays = λ q is p r s. c.stays q is p r (own_step_more x e p r s);
  }

  after_less : (x : Point methods) (e : Exit) (f : Fact) → IsAfter (outline h methods b) x e f → IsAfter (outline h methods a) x e f
  after_less x e f k =
      known_less h methods a b within x.method (IsPictureAfter (outline h methods a) x e) (IsPictureAfter (outline h methods b) x e) (IsCarried (outline h methods a) x e) (IsCarried (outline h methods b) x e)
      (λ q s. (s.0, own_step_more x e s.0 q s.1)) (carried_less x e) f k

  entry_less : (m : Method) (f : Fact) → IsAtEntry (outline h methods b) m f → IsAtEntry (outline h methods a) m f
  entry_less m f k = known_less h methods a b within m _ _ _ _ (λ p x. x) (λ L x. x) f k

  refuted_more : (x : Point methods) (f : Fact) → IsRefutedBySteps (outline h methods a) x f → IsRefutedBySteps (outline h methods b) x f
  refuted_more x f (at_entry first lacks) = at_entry first (λ k. lacks (entry_less x.method f k))
  refuted_more x f (after from e leads lacks) = after from e leads (λ k. lacks (after_less from e f k))

  broken_more : (x : Point methods) (f : Fact) → IsBrokenFact (outline h methods a) x f → IsBrokenFact (outline h methods b) x f
  broken_more x f (L, is, w) = (
    L,
    is,
    record {
      site = w.site;
      before = w.before;
      after = w.after;
      effect = effect_more x.method w.site w.before w.after w.effect;
      claimed = λ K c. w.claimed K (claimed_less x (Fact.Now K) c);
      usable = w.usable;
      false_after = w.false_after;
    },
  )

  forced_more : (Refutes : (O : Outline) → Point O.methods → Fact → Type 0) → ((x : Point methods) (f : Fact) → Refutes (outline h methods a) x f → Refutes (outline h methods b) x f)
      → (number k : ℕ) → IsForcedThere h methods Refutes number a k → IsForcedThere h methods Refutes number b k
  forced_more Refutes more number k w = record {
    at = w.at;
    of_number = w.of_number;
    fact = w.fact;
    is = w.is;
    forced = elim w.forced [
      | inl set ↦ inl (within k set)
      | inr refuted ↦ inr (more w.at w.fact refuted)
    ];
  }

  pub unit_forces_more : (u k : ℕ) → UnitForces h methods u a k → UnitForces h methods u b k
  unit_forces_more u k (by_steps number is w) = by_steps number is (forced_more IsRefutedBySteps refuted_more number k w)
  unit_forces_more u k (by_others number is w) = by_others number is (forced_more IsBrokenFact broken_more number k w)

pub units_monotone : (h : Header) (methods : List Method) (n : ℕ) → IsMonotone (UnitForces h methods) n
units_monotone h methods n u k a b below within w = unit_forces_more h methods a b within u k w
