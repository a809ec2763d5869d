-- The obligation publish cannot fail: a node that another node points to is shared already, so that a node which becomes
-- shared has no pointer to another that is not shared.
use Rattle.std.specs.Prelude.{◌≡◌, ℕ, ◌<◌, Bool, true, false, not, ◌||◌, nat_lt, Some, if◌then◌else◌}
use Rattle.std.specs.Bool.{beq}
use Rattle.std.proofs.Common.{refl, sym, ◌∙◌, ap, subst, inl, inr}
use Rattle.std.proofs.lemmas.Bool.{false≢true, true≢false, and_from, and_parts, or_cases, or_left, eq-eqb, ltb-true, lt-ltb}
use Rattle.plank_pic.specs.declared.parts.Part.{Part}
use Rattle.plank_pic.specs.Frames.{Frame}
use Rattle.plank_pic.specs.Pictures.{Picture, place}
use Rattle.plank_pic.specs.Renaming.{instead}
use Rattle.plank_pic.specs.Lawful.{part_fits, place_fits, IsPossible, IsLawful}
use Rattle.plank_pic.specs.Steps.{agrees_with, Change, Source, mixed, is_published, WritesOrNot, write, IsWrite, IsRenaming, IsPictureStep}
use Rattle.plank_fact.specs.Outlines.{Outline, Point}
use Rattle.plank_fact.specs.OwnSteps.{own_frame}
use Rattle.plank_fact.specs.Writes.{becomes_shared, PublishFails}

same_right : (a b : Bool) → beq a b ≡ true → a ≡ true → b ≡ true
same_right true true h e = refl
same_right true false h e = h
same_right false b h e = absurd (false≢true e)

same_left : (a b : Bool) → beq a b ≡ true → b ≡ true → a ≡ true
same_left true b h e = refl
same_left false true h e = h
same_left false false h e = e

follows : (a b : Bool) → (not a || b) ≡ true → a ≡ true → b ≡ true
follows true b h e = h
follows false b h e = absurd (false≢true e)

no_or : (a b : Bool) → a ≡ false → (a || b) ≡ true → b ≡ true
no_or false b e h = h
no_or true b e h = absurd (true≢false e)

not_so : (a : Bool) → not a ≡ true → a ≡ false
not_so false h = refl
not_so true h = absurd (false≢true h)

if_not : (a b c : Bool) → a ≡ false → (if a then b else c) ≡ c
if_not false b c e = refl
if_not true b c e = absurd (true≢false e)

write_of : {F : Frame} {c : Change} {B W : Picture} → WritesOrNot F (Some c) B W → IsWrite F c B W
write_of (write w) = w

module _ (F : Frame) (c : Change) (B W A : Picture) (lawful : IsLawful F B) (wrote : IsWrite F c B W) (names : IsRenaming F Source.Of W A) (possible : IsPossible F A) where
  fits_of : (part : Part) → A part ≡ true → part_fits F part ≡ true
  fits_of part h = by_cases (part_fits F part) refl
    where
      by_cases : (b : Bool) → part_fits F part ≡ b → part_fits F part ≡ true
      by_cases true e = e
      by_cases false e = absurd (true≢false (sym h ∙ possible.picture.fits part e))

  -- ---- a pointer of a node that becomes shared was there before

  -- a part that renaming and the write leave to a test is true after where that is, and only there
  forward : (part : Part) (between before : Bool) → agrees_with (Some between) (A part) ≡ true → agrees_with (Some before) between ≡ true → before ≡ true → A part ≡ true
  forward part between before h e t = same_left (A part) between h (same_left between before e t)

  back : (part : Part) (between before : Bool) → agrees_with (Some between) (A part) ≡ true → agrees_with (Some before) between ≡ true → A part ≡ true → before ≡ true
  back part between before h e t = same_right between before e (same_right (A part) between h t)

  shared_before_or_put : (i : ℕ) → A (Part.Shared i) ≡ true → (B (Part.Shared i) || is_published F B c i) ≡ true
  shared_before_or_put i h =
      let fits = fits_of (Part.Shared i) h in
      back (Part.Shared i) (W (Part.Shared i)) (B (Part.Shared i) || is_published F B c i) (names.parts (Part.Shared i) fits) (wrote.parts (Part.Shared i) fits) h

  shared_after : (j : ℕ) → part_fits F (Part.Shared j) ≡ true → B (Part.Shared j) ≡ true → A (Part.Shared j) ≡ true
  shared_after j fits h =
      forward (Part.Shared j) (W (Part.Shared j)) (B (Part.Shared j) || is_published F B c j) (names.parts (Part.Shared j) fits) (wrote.parts (Part.Shared j) fits)
      (or_left (B (Part.Shared j)) (is_published F B c j) h)

  same_after : (i j : ℕ) → part_fits F (Part.Same i j) ≡ true → B (Part.Same i j) ≡ true → A (Part.Same i j) ≡ true
  same_after i j fits h =
      forward (Part.Same i j) (W (Part.Same i j)) (B (Part.Same i j)) (names.parts (Part.Same i j) fits) (wrote.parts (Part.Same i j) fits) h

  -- a pointer of another node than the written one
  led_before : (i f j : ℕ) → B (Part.Same i c.at) ≡ false → A (Part.Leads (place i f) j) ≡ true → B (Part.Leads (place i f) j) ≡ true
  led_before i f j other h =
      let fits = fits_of (Part.Leads (place i f) j) h in
      sym (if_not (B (Part.Same i c.at)) _ (B (Part.Leads (place i f) j)) other)
      ∙ back (Part.Leads (place i f) j) (W (Part.Leads (place i f) j)) (mixed B c (Part.Leads (place i f) j)) (names.parts (Part.Leads (place i f) j) fits) (wrote.parts (Part.Leads (place i f) j) fits) h

  -- the node that it leads to was shared, or is the same node
  shared_or_same : (i f j : ℕ) → place_fits F (place i f) ≡ true → j < F.names → B (Part.Leads (place i f) j) ≡ true → (B (Part.Shared j) || B (Part.Same i j)) ≡ true
  shared_or_same i f j fits below h =
      follows (B (Part.Leads (place i f) j)) (B (Part.Shared j) || B (Part.Same i j)) (lawful.possible.unreached (place i f) j fits below) h

  name_itself : (i j : ℕ) → instead i j j ≡ i
  name_itself i j = ap (λ b. if b then i else j) (eq-eqb j j refl)

  -- names of one node are shared alike
  shared_alike : (i j : ℕ) → i < F.names → j < F.names → A (Part.Same i j) ≡ true → A (Part.Shared i) ≡ true → A (Part.Shared j) ≡ true
  shared_alike i j bi bj same h =
      let alike = possible.picture.one_node i j (Part.Shared j) bi bj (lt-ltb j F.names bj) in
      let now = follows (A (Part.Same i j)) (beq (A (Part.Shared (instead i j j))) (A (Part.Shared j))) alike same in
      same_right (A (Part.Shared (instead i j j))) (A (Part.Shared j)) now (ap (λ k. A (Part.Shared k)) (name_itself i j) ∙ h)

  pub leads_to_shared_then : (i f j : ℕ) → becomes_shared B A i ≡ true → A (Part.Leads (place i f) j) ≡ true → A (Part.Shared j) ≡ true
  leads_to_shared_then i f j becomes leads =
      let turned = and_parts (not (B (Part.Shared i))) (A (Part.Shared i)) becomes in
      let put = no_or (B (Part.Shared i)) (is_published F B c i) (not_so (B (Part.Shared i)) turned.0) (shared_before_or_put i turned.1) in
      let other = not_so (B (Part.Same i c.at)) (and_parts (not (B (Part.Same i c.at))) _ put).0 in
      let there = and_parts (place_fits F (place i f)) (nat_lt j F.names) (fits_of (Part.Leads (place i f) j) leads) in
      let first = fits_of (Part.Shared i) turned.1 in
      elim (or_cases (B (Part.Shared j)) (B (Part.Same i j)) (shared_or_same i f j there.0 (ltb-true j F.names there.1) (led_before i f j other leads))) [
        | inl shared ↦ shared_after j there.1 shared
        | inr same ↦ shared_alike i j (ltb-true i F.names first) (ltb-true j F.names there.1) (same_after i j (and_from (nat_lt i F.names) (nat_lt j F.names) first there.1) same) turned.1
      ]

pub publish_cannot_fail : (O : Outline) (x : Point O.methods) → PublishFails O x → ⊥
publish_cannot_fail O x w =
    let step = subst (λ change. IsPictureStep (own_frame O x) change Source.Of w.before w.after) w.writes w.step.step.step in
    let shared = leads_to_shared_then (own_frame O x) w.change w.before step.between w.after w.step.own.picture.lawful (write_of step.writes) step.names step.possible
    w.wrong.node w.wrong.pointer w.wrong.to w.wrong.shared w.wrong.leads in
    true≢false (sym shared ∙ w.wrong.own)
