-- First names: of all names of a node the least. Walks go from first name to first name.
use Rattle.std.proofs.Common.{◌≡◌, ◌⊎◌, ℕ, ◌<◌, ◌==◌, Bool, true, false, not, length, Option, Some, None, refl, sym, ◌∙◌, ap, subst, inl, inr, arith}
use Rattle.std.specs.Prelude.{◌&&◌, ◌||◌, unwrap_or, if◌then◌else◌}
use Rattle.std.proofs.lemmas.Bool.{true≢false, and_parts, and_from, ltb-true, lt-ltb, eq-eqb, or_right, false_from_ne_true}
use Rattle.std.proofs.lemmas.Option.{none-some, same_Some}
use Rattle.plank_pic.specs.declared.parts.KeyName.{KeyName}
use Rattle.plank_pic.specs.declared.parts.Target.{Target}
use Rattle.plank_pic.specs.declared.parts.Place.{Place}
use Rattle.plank_pic.specs.declared.parts.Part.{Part}
use Rattle.plank_pic.specs.Frames.{Frame}
use Rattle.plank_pic.specs.Below.{least_below}
use Rattle.plank_pic.specs.Pictures.{Picture, place, leads_to, chains_on, edge, target, pointer_target, outer_target, chain_target}
use Rattle.plank_pic.specs.Outcomes.{is_same, first_name}
use Rattle.plank_pic.specs.Lawful.{part_fits, speaks_of, IsPicture}
use Rattle.plank_pic.proofs.Below.{least_some, least_none, least_first, least_step}
use Rattle.plank_pic.proofs.EachName.{told, same_bits}
use Rattle.plank_lawful.proofs.OneNode.{first, nothing_said}
use Rattle.plank_lawful.proofs.Tests.{tri, no_of}
use Rattle.plank_scene.proofs.Walks.Passing.{move_of, move}

-- the least of the names of a node
pub record IsFirst (F : Frame) (p : Picture) (m : ℕ) : Type 0 where
  pub below : m < F.names
  pub there : p (Part.Same m m) ≡ true
  pub least : (n : ℕ) → n < m → p (Part.Same n m) ≡ false

-- the least number that passes a test
pub least_is : (t : ℕ → Bool) (n i : ℕ) → i < n → t i ≡ true → ((m : ℕ) → m < i → t m ≡ false) → least_below t n ≡ Some i
least_is t n i h e none = least_step t i n h e (by_least (least_below t i) refl)
  where
    by_least : (o : Option ℕ) → least_below t i ≡ o → least_below t i ≡ None
    by_least None l = l
    by_least (Some m) l = let w = least_some t i m l in absurd (true≢false (sym w.1 ∙ none m w.0))

module _ (F : Frame) (p : Picture) (is : IsPicture F p) where
  pub fits_so : (part : Part) → p part ≡ true → part_fits F part ≡ true
  fits_so part e = by_bit (part_fits F part) refl
    where
      by_bit : (b : Bool) → part_fits F part ≡ b → part_fits F part ≡ true
      by_bit true f = f
      by_bit false f = absurd (true≢false (sym e ∙ is.fits part f))

  -- ---- names of one node

  pub same_below : (i j : ℕ) → p (Part.Same i j) ≡ true → (i < F.names) × (j < F.names)
  same_below i j e = let w = and_parts _ _ (fits_so (Part.Same i j) e) in (ltb-true i F.names w.0, ltb-true j F.names w.1)

  pub turned : (i j : ℕ) → p (Part.Same i j) ≡ true → p (Part.Same j i) ≡ true
  turned i j e = let b = same_below i j e in told _ _ (is.symmetric i j b.0 b.1) e

  pub joined : (i j k : ℕ) → p (Part.Same i j) ≡ true → p (Part.Same j k) ≡ true → p (Part.Same i k) ≡ true
  joined i j k e d = told _ _ (is.transitive i j k (same_below i j e).0 (same_below i j e).1 (same_below j k d).1) (and_from _ _ e d)

  pub same_itself : (i : ℕ) → i < F.names → p (Part.Null i) ≡ false → p (Part.Same i i) ≡ true
  same_itself i b e = same_bits _ _ (is.itself i b) ∙ ap not e

  -- what says something of a name speaks of a node
  pub node_there : (i : ℕ) (part : Part) → i < F.names → speaks_of i part ≡ true → p part ≡ true → p (Part.Null i) ≡ false
  node_there i part b speaks e = false_from_ne_true (p (Part.Null i)) (λ null. true≢false (sym e ∙ nothing_said F p is i b null part speaks))

  -- ---- first names

  pub first_of : (i : ℕ) → i < F.names → p (Part.Null i) ≡ false → (least_below (is_same p i) F.names ≡ Some (first_name F p i)) × (IsFirst F p (first_name F p i) × (p (Part.Same i (first_name F p i)) ≡ true))
  first_of i b node = by_least (least_below (is_same p i) F.names) refl
    where
      by_least : (o : Option ℕ) → least_below (is_same p i) F.names ≡ o → (o ≡ Some (unwrap_or o i)) × (IsFirst F p (unwrap_or o i) × (p (Part.Same i (unwrap_or o i)) ≡ true))
      by_least None l = absurd (true≢false (sym (same_itself i b node) ∙ least_none (is_same p i) F.names l i b))
      by_least (Some j) l =
          let w = least_some (is_same p i) F.names j l in (
            refl,
            (
              record {
                below = w.0;
                there = joined j i j (turned i j w.1) w.1;
                least = λ n h. false_from_ne_true (p (Part.Same n j)) (λ e. true≢false (sym (joined i j n w.1 (turned n j e)) ∙ least_first (is_same p i) F.names j l n h));
              },
              w.1,
            ),
          )

  pub one_first : (x y : ℕ) → IsFirst F p x → IsFirst F p y → p (Part.Same x y) ≡ true → x ≡ y
  one_first x y ix iy e = elim (tri x y) [
    | inl below ↦ absurd (true≢false (sym (turned x y e) ∙ ix.least y below))
    | inr (inl same) ↦ same
    | inr (inr above) ↦ absurd (true≢false (sym e ∙ iy.least x above))
  ]

  -- ---- two names of one node, in parts that speak of another name too

  -- whatever leads to the one leads to the other
  pub leads_alike : (x f n j : ℕ) → p (Part.Same n j) ≡ true → p (Part.Leads (place x f) j) ≡ true → p (Part.Leads (place x f) n) ≡ true
  leads_alike x f n j e d =
      let b = same_below n j e in
      let fits = fits_so (Part.Leads (place x f) j) d in
      first F p is n j b.0 b.1 e (λ a o. Part.Leads (place o f) a) (λ a o. refl) x (and_from _ _ (and_parts _ _ fits).0 (lt-ltb n F.names b.0)) fits ∙ d

  -- whatever the one leads to, the other does
  pub leads_from : (n j f y : ℕ) → p (Part.Same n j) ≡ true → p (Part.Leads (place j f) y) ≡ true → p (Part.Leads (place n f) y) ≡ true
  leads_from n j f y e d =
      let b = same_below n j e in
      let fits = fits_so (Part.Leads (place j f) y) d in
      let parts = and_parts _ _ fits in
      first F p is n j b.0 b.1 e (λ a o. Part.Leads (place a f) o) (λ a o. refl) y
      (and_from _ _ (and_from _ _ (lt-ltb n F.names b.0) (and_parts _ _ parts.0).1) parts.1) fits ∙ d

  chain_alike : (x n q : ℕ) → p (Part.Same n q) ≡ true → p (Part.Chain x q) ≡ true → p (Part.Chain x n) ≡ true
  chain_alike x n q e d =
      let b = same_below n q e in
      let fits = fits_so (Part.Chain x q) d in
      first F p is n q b.0 b.1 e (λ a o. Part.Chain o a) (λ a o. refl) x (and_from _ _ (and_parts _ _ fits).0 (lt-ltb n F.names b.0)) fits ∙ d

  -- ---- a walk goes from first name to first name

  led_first : (x f j : ℕ) → least_below (leads_to p (place x f)) F.names ≡ Some j → IsFirst F p j
  led_first x f j l =
      let w = least_some (leads_to p (place x f)) F.names j l in
      record {
        below = w.0;
        there = same_itself j w.0 (node_there j (Part.Leads (place x f) j) w.0 (or_right (x == j) (j == j) (eq-eqb j j refl)) w.1);
        least = λ n h. false_from_ne_true (p (Part.Same n j)) (λ e.
            true≢false (sym (leads_alike x f n j e w.1) ∙ least_first (leads_to p (place x f)) F.names j l n h));
      }

  chained_first : (x q : ℕ) → least_below (chains_on p x) F.names ≡ Some q → IsFirst F p q
  chained_first x q l =
      let w = least_some (chains_on p x) F.names q l in
      let parts = and_parts (p (Part.Chain x q)) (not (p (Part.Same x q))) w.1 in
      record {
        below = w.0;
        there = same_itself q w.0 (node_there q (Part.Chain x q) w.0 (or_right (x == q) (q == q) (eq-eqb q q refl)) parts.0);
        least = λ n h. false_from_ne_true (p (Part.Same n q)) (λ e.
            let other : p (Part.Same x n) ≡ false = false_from_ne_true (p (Part.Same x n)) (λ d. true≢false (sym (joined x n q d e) ∙ no_of (p (Part.Same x q)) parts.1)) in
            true≢false (sym (and_from _ _ (chain_alike x n q e parts.0) (ap not other)) ∙ least_first (chains_on p x) F.names q l n h));
      }

  module _ (k : KeyName) where
    jumped : (x q : ℕ) (o r : Bool) → IsFirst F p q → (m : ℕ) → move_of (if o then Target.Stops x q 0 else if r then Target.Stops x q 1 else Target.Jumps q) ≡ Some m → IsFirst F p m
    jumped x q true r h m d = absurd (none-some m d)
    jumped x q false true h m d = absurd (none-some m d)
    jumped x q false false h m d = subst (IsFirst F p) (same_Some q m d) h

    outer_first : (x f : ℕ) (o : Option ℕ) → least_below (chains_on p x) F.names ≡ o → (m : ℕ) → move_of (elim o [ Some q ↦ chain_target p k x q | None ↦ Target.Out (place x f) ]) ≡ Some m → IsFirst F p m
    outer_first x f None e m d = absurd (none-some m d)
    outer_first x f (Some q) e m d = jumped x q (p (Part.Picks k x q 0)) (p (Part.Picks k x q 1)) (chained_first x q e) m d

    pointer_first : (x f : ℕ) (o : Option ℕ) → least_below (leads_to p (place x f)) F.names ≡ o → (m : ℕ) → move_of (elim o [ Some j ↦ Target.To j | None ↦ outer_target F p k x f ]) ≡ Some m → IsFirst F p m
    pointer_first x f None e m d = outer_first x f (least_below (chains_on p x) F.names) refl m d
    pointer_first x f (Some j) e m d = subst (IsFirst F p) (same_Some j m d) (led_first x f j e)

    edge_first : (x : ℕ) (o : Option ℕ) (m : ℕ) → move_of (elim o [ Some f ↦ pointer_target F p k x f | None ↦ Target.Ends ]) ≡ Some m → IsFirst F p m
    edge_first x None m d = absurd (none-some m d)
    edge_first x (Some f) m d = pointer_first x f (least_below (leads_to p (place x f)) F.names) refl m d

    pub moves_first : (x m : ℕ) → move (target F p k) x ≡ Some m → IsFirst F p m
    moves_first x m d = edge_first x (edge F.header p k x) m d
