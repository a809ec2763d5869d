-- The more marks are set, the less is claimed: calls see more pictures, effects are more, and hindsight gives less. So the
-- more is forced.
use Rattle.std.specs.Prelude.{◌≡◌, ◌⊎◌, ℕ, Bool, true, false, List, Option}
use Rattle.std.proofs.Common.{refl, sym, ◌∙◌, inl, inr}
use Rattle.std.proofs.lemmas.Bool.{false≢true}
use Rattle.plank_bits.specs.Words.{IsWithin}
use Rattle.plank_bits.specs.Forced.{IsMonotone}
use Rattle.plank_prog.specs.declared.headers.Header.{Header}
use Rattle.plank_prog.specs.declared.methods.Method.{Method}
use Rattle.plank_pic.specs.declared.literals.Literal.{Literal}
use Rattle.plank_pic.specs.declared.literals.Exit.{Exit}
use Rattle.plank_pic.specs.Pictures.{Picture}
use Rattle.plank_fact.specs.declared.facts.Fact.{Fact}
use Rattle.plank_fact.specs.Outlines.{Point, IsClaimed}
use Rattle.plank_fact.specs.OwnSteps.{IsOwnPicture, IsOwnStep}
use Rattle.plank_fact.specs.Effects.{IsEffect}
use Rattle.plank_fact.specs.Hindsight.{IsHindsight}
use Rattle.plank_fact.specs.After.{IsAlways, IsAlwaysLasting, IsOncePast, seen, carried, hindsight, IsKnown, IsCarried, IsPictureAfter, IsAfter, IsAtEntry}
use Rattle.plank_fact.specs.Forced.{IsBroken, IsRefuted, at_entry, after, broken, outline, Forces}

clear_of : (x y : Bool) → (x ≡ true → y ≡ true) → y ≡ false → x ≡ false
clear_of false y h e = refl
clear_of true y h e = absurd (false≢true (sym e ∙ h refl))

more_of : (x y : Bool) → (x ≡ true → y ≡ true) → {R S : Type 0} → (R → S) → (x ≡ true) ⊎ R → (y ≡ true) ⊎ S
more_of x y h f (inl e) = inl (h e)
more_of x y h f (inr r) = inr (f r)

module _ (h : Header) (methods : List Method) (a b : ℕ → Bool) (within : IsWithin a b) where
  -- what is claimed at the marks b is claimed at the marks a
  claimed_less : (x : Point methods) (f : Fact) → IsClaimed (outline h methods b) x f → IsClaimed (outline h methods a) x f
  claimed_less x f c = record { mark = c.mark; of_fact = c.of_fact; is = clear_of (a c.mark) (b c.mark) (within c.mark) c.is }

  own_picture_more : (x : Point methods) (p : Picture) → IsOwnPicture (outline h methods a) x p → IsOwnPicture (outline h methods b) x p
  own_picture_more x p o = record { picture = o.picture; claimed = λ L c. o.claimed L (claimed_less x (Fact.Now L) c) }

  own_step_more : (x : Point methods) (e : Exit) (p q : Picture) → IsOwnStep (outline h methods a) x e p q → IsOwnStep (outline h methods b) x e p q
  own_step_more x e p q s = record { own = own_picture_more x p s.own; step = s.step }

  effect_more : (m : Method) (site : Point methods) (p q : Picture) → IsEffect (outline h methods a) m site p q → IsEffect (outline h methods b) m site p q
  effect_more m site p q e = record {
    writes = e.writes;
    block = e.block;
    here = e.here;
    lawful = e.lawful;
    others = e.others;
    claimed = λ L c known. e.claimed L (claimed_less site (Fact.Now L) c) known;
    step = e.step;
  }

  pub hindsight_less : (m : Method) (I J : Literal → Type 0) (past : Literal) (now : Option Literal) (L : Literal) → ((K : Literal) → J K → I K)
      → IsHindsight (outline h methods b) m J past now L → IsHindsight (outline h methods a) m I past now L
  hindsight_less m I J past now L fewer w = record {
    fits = w.fits;
    already = λ p lawful all. w.already p lawful (λ K j. all K (fewer K j));
    later = λ c is site p q e all. w.later c is site p q (effect_more m site p q e) (λ K j. all K (fewer K j));
  }

  pub always_less : (m : Method) (A B : Picture → Type 0) → ((p : Picture) → A p → B p) → (L : Literal) → IsAlways h m B L → IsAlways h m A L
  always_less m A B more L w = record { fact = w.fact; holds = λ p x. w.holds p (more p x) }

  pub once_past_less : (m : Method) (A B : Picture → Type 0) (C D : Literal → Type 0) → ((p : Picture) → A p → B p) → ((L : Literal) → D L → C L)
      → (L : Literal) → IsOncePast (outline h methods b) m B D L → IsOncePast (outline h methods a) m A C L
  once_past_less m A B C D more fewer L (seen f s) = seen f (λ p x. s p (more p x))
  once_past_less m A B C D more fewer L (carried f c) = carried f (fewer L c)
  once_past_less m A B C D more fewer L (hindsight f past o now given w) =
      hindsight f past (once_past_less m A B C D more fewer past o) now (λ K e. always_less m A B more K (given K e))
      (hindsight_less m (IsAlwaysLasting h m A) (IsAlwaysLasting h m B) past now L (λ K j. (j.0, always_less m A B more K j.1)) w)

  pub known_less : (m : Method) (A B : Picture → Type 0) (C D : Literal → Type 0) → ((p : Picture) → A p → B p) → ((L : Literal) → D L → C L)
      → (f : Fact) → IsKnown (outline h methods b) m B D f → IsKnown (outline h methods a) m A C f
  known_less m A B C D more fewer (Fact.Now L) k = always_less m A B more L k
  known_less m A B C D more fewer (Fact.Past L) k = once_past_less m A B C D more fewer L k

  carried_less : (x : Point methods) (e : Exit) (L : Literal) → IsCarried (outline h methods b) x e L → IsCarried (outline h methods a) x e L
  carried_less x e L c = record {
    before = c.before;
    claimed = claimed_less x (Fact.Past c.before) c.claimed;
    to = c.to;
    is = c.is;
    stays = λ q is p r s. c.stays q is p r (own_step_more x e p r s);
  }

  after_less : (x : Point methods) (e : Exit) (f : Fact) → IsAfter (outline h methods b) x e f → IsAfter (outline h methods a) x e f
  after_less x e f k =
      known_less x.method (IsPictureAfter (outline h methods a) x e) (IsPictureAfter (outline h methods b) x e) (IsCarried (outline h methods a) x e) (IsCarried (outline h methods b) x e)
      (λ q s. (s.0, own_step_more x e s.0 q s.1)) (carried_less x e) f k

  entry_less : (m : Method) (f : Fact) → IsAtEntry (outline h methods b) m f → IsAtEntry (outline h methods a) m f
  entry_less m f k = known_less m _ _ _ _ (λ p x. x) (λ L x. x) f k

  broken_more : (x : Point methods) (L : Literal) → IsBroken (outline h methods a) x L → IsBroken (outline h methods b) x L
  broken_more x L w = record {
    site = w.site;
    before = w.before;
    after = w.after;
    effect = effect_more x.method w.site w.before w.after w.effect;
    claimed = λ K c. w.claimed K (claimed_less x (Fact.Now K) c);
    usable = w.usable;
    false_after = w.false_after;
  }

  refuted_more : (x : Point methods) (f : Fact) → IsRefuted (outline h methods a) x f → IsRefuted (outline h methods b) x f
  refuted_more x f (at_entry first lacks) = at_entry first (λ k. lacks (entry_less x.method f k))
  refuted_more x f (after from e leads lacks) = after from e leads (λ k. lacks (after_less from e f k))
  refuted_more x f (broken w) = broken (broken_more x _ w)

  pub forces_more : (m k : ℕ) → Forces h methods m a k → Forces h methods m b k
  forces_more m k w = record {
    at = w.at;
    of_method = w.of_method;
    fact = w.fact;
    is = w.is;
    forced = more_of (a k) (b k) (within k) (refuted_more w.at w.fact) w.forced;
  }

pub forces_monotone : (h : Header) (methods : List Method) (n : ℕ) → IsMonotone (Forces h methods) n
forces_monotone h methods n m k a b below within w = forces_more h methods a b within m k w
