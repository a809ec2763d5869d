-- The two forms of the rule on visits are equal on pictures.
use Rattle.std.proofs.Common.{◌≡◌, ◌⊎◌, ℕ, ◌<◌, ◌==◌, Bool, true, false, not, length, Option, Some, None, refl, sym, ◌∙◌, ap, subst, inl, inr, arith}
use Rattle.std.specs.Prelude.{◌&&◌, ◌||◌, if◌then◌else◌, nat_lt}
use Rattle.std.specs.Bool.{beq}
use Rattle.std.proofs.lemmas.Bool.{true≢false, and_parts, and_from, cond-true, eq-eqb, lt-ltb, false_from_ne_true}
use Rattle.plank_pic.specs.declared.parts.KeyName.{KeyName}
use Rattle.plank_pic.specs.declared.parts.Place.{Place}
use Rattle.plank_pic.specs.declared.parts.Part.{Part}
use Rattle.plank_pic.specs.declared.parts.Target.{Target}
use Rattle.plank_pic.specs.Frames.{Frame}
use Rattle.plank_pic.specs.Below.{some_below, least_below}
use Rattle.plank_pic.specs.Pictures.{Picture, place, leads_to, goes, edge, outer_target, pointer_target}
use Rattle.plank_pic.specs.Lawful.{◌⇒◌, arrives, visit_goes_on, leads_once, leads_somewhere, place_fits, IsPicture}
use Rattle.plank_pic.specs.EachName.{leads_unvisited, arrives_by, visit_goes_on_each}
use Rattle.plank_pic.proofs.Below.{least_some, least_none, some_found, some_there, none_there}

-- ---- tests

pub told : (a b : Bool) → (a ⇒ b) ≡ true → a ≡ true → b ≡ true
told true b e h = e
told false b e h = absurd (true≢false (sym h))

pub same_bits : (a b : Bool) → beq a b ≡ true → a ≡ b
same_bits true true e = refl
same_bits true false e = absurd (true≢false (sym e))
same_bits false true e = absurd (true≢false (sym e))
same_bits false false e = refl

pub alike_under : (a b c : Bool) → (a ≡ true → b ≡ c) → (a ⇒ b) ≡ (a ⇒ c)
alike_under true b c h = h refl
alike_under false b c h = refl

pub is_false : (b : Bool) → (b ⇒ false) ≡ true → b ≡ false
is_false true e = absurd (true≢false (sym e))
is_false false e = refl

not_so : (b : Bool) → not b ≡ true → b ≡ false
not_so true e = absurd (true≢false (sym e))
not_so false e = refl

either_so : (a b : Bool) → (a || b) ≡ true → a ≡ false → b ≡ true
either_so true b e h = absurd (true≢false h)
either_so false b e h = e

-- ---- names of one node

module _ (F : Frame) (p : Picture) (is : IsPicture F p) where
  -- a walk visits each name of a node or none
  pub visits_alike : (k : KeyName) (i j : ℕ) → i < F.names → j < F.names → p (Part.Same i j) ≡ true → p (Part.Visits k i) ≡ p (Part.Visits k j)
  visits_alike k i j bi bj same =
      ap (λ m. p (Part.Visits k m)) (sym (cond-true (j == j) i j (eq-eqb j j refl)))
      ∙ same_bits (p (Part.Visits k (if j == j then i else j))) (p (Part.Visits k j)) (told _ _ (is.one_node i j (Part.Visits k j) bi bj (lt-ltb j F.names bj)) same)

  module _ (k : KeyName) (i : ℕ) (bi : i < F.names) (visited : p (Part.Visits k i) ≡ true) where
    not_null : p (Part.Null i) ≡ false
    not_null = false_from_ne_true (p (Part.Null i)) (λ e. true≢false (sym (told _ _ (is.bare i (Part.Visits k i) bi (lt-ltb i F.names bi) (eq-eqb i i refl)) (and_from _ _ e visited))))

    module _ (f : ℕ) (few : f < length F.header.pointers) (there : p (Part.PointerNull (place i f)) ≡ false) where
      x : Place
      x = place i f

      fits : place_fits F (place i f) ≡ true
      fits = and_from _ _ (lt-ltb i F.names bi) (lt-ltb f (length F.header.pointers) few)

      led : (j : ℕ) → j < F.names → p (Part.Leads (place i f) j) ≡ true → arrives F p k i (Target.To j) ≡ arrives_by F p k i (Some f)
      led j bj leads = by_bit (p (Part.Visits k j)) refl
        where
          inside : p (Part.Beyond (place i f)) ≡ false
          inside =
              let w = and_parts (not (p (Part.PointerNull (place i f)) && p (Part.Beyond (place i f)))) (not (p (Part.Leads (place i f) j) && (p (Part.PointerNull (place i f)) || p (Part.Beyond (place i f))))) (is.once (place i f) j fits bj) in
              false_from_ne_true (p (Part.Beyond (place i f))) (λ e. true≢false (sym (sym (ap (λ b. not (b && (p (Part.PointerNull (place i f)) || p (Part.Beyond (place i f))))) leads
              ∙ ap (λ b. not (b || p (Part.Beyond (place i f)))) there ∙ ap not e) ∙ w.1)))

          beyond_so : (p (Part.Beyond (place i f)) ⇒ arrives F p k i (outer_target F p k i f)) ≡ true
          beyond_so = ap (λ b. b ⇒ arrives F p k i (outer_target F p k i f)) inside

          by_bit : (b : Bool) → p (Part.Visits k j) ≡ b → p (Part.Visits k j) ≡ arrives_by F p k i (Some f)
          by_bit true e = e ∙ sym (and_from _ _ (ap not (none_there (leads_unvisited p k (place i f)) F.names each)) beyond_so)
            where
              each : (m : ℕ) → m < F.names → leads_unvisited p k (place i f) m ≡ false
              each m bm = false_from_ne_true _ (λ u.
                  let w = and_parts (p (Part.Leads (place i f) m)) (not (p (Part.Visits k m))) u in
                  let same = told _ _ (is.one_target (place i f) j m fits bj bm) (and_from _ _ leads w.0) in
                  true≢false (sym e ∙ visits_alike k j m bj bm same ∙ not_so _ w.1))
          by_bit false e = e ∙ sym (ap (λ b. not b && (p (Part.Beyond (place i f)) ⇒ arrives F p k i (outer_target F p k i f)))
              (some_there (leads_unvisited p k (place i f)) F.names j bj (and_from _ _ leads (ap not e))))

      not_led : ((j : ℕ) → j < F.names → p (Part.Leads (place i f) j) ≡ false) → arrives F p k i (outer_target F p k i f) ≡ arrives_by F p k i (Some f)
      not_led none =
          sym (ap (λ b. not b && (p (Part.Beyond (place i f)) ⇒ arrives F p k i (outer_target F p k i f))) (none_there (leads_unvisited p k (place i f)) F.names (λ j bj. ap (λ b. b && not (p (Part.Visits k j))) (none j bj)))
          ∙ ap (λ b. b ⇒ arrives F p k i (outer_target F p k i f)) beyond)
        where
          beyond : p (Part.Beyond (place i f)) ≡ true
          beyond =
              either_so (some_below (leads_to p (place i f)) F.names) (p (Part.Beyond (place i f)))
              (turned (p (Part.Beyond (place i f))) (some_below (leads_to p (place i f)) F.names) (either_so (p (Part.Null i) || p (Part.PointerNull (place i f))) (p (Part.Beyond (place i f)) || some_below (leads_to p (place i f)) F.names) (grouped (p (Part.Null i) || p (Part.PointerNull (place i f))) (p (Part.Beyond (place i f))) (some_below (leads_to p (place i f)) F.names) (is.somewhere (place i f) fits)) (ap (λ b. b || p (Part.PointerNull (place i f))) not_null ∙ there)))
              (none_there (leads_to p (place i f)) F.names none)
            where
              grouped : (a b c : Bool) → (a || b || c) ≡ true → (a || (b || c)) ≡ true
              grouped true b c e = refl
              grouped false b c e = e

              turned : (a b : Bool) → (a || b) ≡ true → (b || a) ≡ true
              turned true true e = refl
              turned true false e = refl
              turned false true e = refl
              turned false false e = e

    by_edge : (o : Option ℕ) → edge F.header p k i ≡ o → arrives F p k i (elim o [ Some f ↦ pointer_target F p k i f | None ↦ Target.Ends ]) ≡ arrives_by F p k i o
    by_edge None e = refl
    by_edge (Some f) e =
        let w = least_some (goes F.header p k i) (length F.header.pointers) f e in
        by_lead f w.0 (not_so _ (and_parts _ _ w.1).0) (least_below (leads_to p (place i f)) F.names) refl
      where
        by_lead : (f : ℕ) → f < length F.header.pointers → p (Part.PointerNull (place i f)) ≡ false → (o : Option ℕ) → least_below (leads_to p (place i f)) F.names ≡ o
            → arrives F p k i (elim o [ Some j ↦ Target.To j | None ↦ outer_target F p k i f ]) ≡ arrives_by F p k i (Some f)
        by_lead f few there (Some j) l = let w = least_some (leads_to p (place i f)) F.names j l in led f few there j w.0 w.1
        by_lead f few there None l = not_led f few there (least_none (leads_to p (place i f)) F.names l)

  pub visits_go_on_alike : (k : KeyName) (i : ℕ) → i < F.names → visit_goes_on F p k i ≡ visit_goes_on_each F p k i
  visits_go_on_alike k i bi = alike_under (p (Part.Visits k i)) _ _ (λ visited. by_edge k i bi visited (edge F.header p k i) refl)
