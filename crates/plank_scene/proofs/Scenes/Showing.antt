-- What the picture of a scene says of names, in terms of the nodes that they name.
use Rattle.std.proofs.Common.{◌≡◌, ℕ, ◌<◌, ◌==◌, Bool, true, false, not, Option, Some, None, refl, sym, ◌∙◌, ap, subst, inl, inr}
use Rattle.std.specs.Prelude.{◌&&◌, ◌||◌, nat_lt, is_some, is_none, slice_get, unwrap_or}
use Rattle.std.specs.Option.{option_map_or}
use Rattle.std.specs.Bool.{beq}
use Rattle.std.proofs.lemmas.Bool.{false≢true, and_parts, and_from, cases_Bool, eqb-true, eq-eqb, lt-ltb, cond-true, cond-false}
use Rattle.std.proofs.Math.Path.{ap₂}
use Rattle.plank_base.specs.declared.keys.Key.{Key}
use Rattle.plank_base.specs.Keys.{is_at_most}
use Rattle.plank_prog.specs.Views.{is_bit_set}
use Rattle.plank_heap.specs.Walks.{walk_visits}
use Rattle.plank_heap.specs.declared.nodes.Node.{Node}
use Rattle.plank_heap.specs.Changes.{fresh_node}
use Rattle.plank_pic.specs.declared.parts.Place.{Place}
use Rattle.plank_pic.specs.declared.parts.Part.{Part}
use Rattle.plank_pic.specs.Frames.{Frame}
use Rattle.plank_pic.specs.Renaming.{rename_part, instead, rename, rename_term}
use Rattle.plank_pic.specs.Lawful.{part_fits, place_fits, term_fits, agrees}
use Rattle.plank_pic.specs.declared.parts.Term.{Term}
use Rattle.plank_scene.specs.Scenes.{is_mine_in, has_others_lock, Scene, node_at, leads, leads_from, is_node, is_nameless, is_shared_in, is_chain, on, on_both, picks_in, says, shown, key_in, has_lock}

-- ---- nodes of names

pub is_node_true : (o r : Option ℕ) → is_node o r ≡ true → (x : ℕ) × (o ≡ Some x) × (r ≡ Some x)
is_node_true None r e = absurd (false≢true e)
is_node_true (Some x) None e = absurd (false≢true e)
is_node_true (Some x) (Some y) e = (x, refl, ap Some (sym (eqb-true x y e)))

pub is_node_same : (x : ℕ) → is_node (Some x) (Some x) ≡ true
is_node_same x = eq-eqb x x refl

pub is_node_at : {o r : Option ℕ} {x : ℕ} → o ≡ Some x → r ≡ Some x → is_node o r ≡ true
is_node_at {o} {r} {x} e d = ap (λ v. is_node v r) e ∙ ap (λ v. is_node (Some x) v) d ∙ is_node_same x

pub on_true : (test : ℕ → Bool) (o : Option ℕ) → on test o ≡ true → (x : ℕ) × (o ≡ Some x) × (test x ≡ true)
on_true test None e = absurd (false≢true e)
on_true test (Some x) e = (x, refl, e)

pub on_at : (test : ℕ → Bool) {o : Option ℕ} {x : ℕ} → o ≡ Some x → on test o ≡ test x
on_at test e = ap (on test) e

pub on_both_true : (test : ℕ → ℕ → Bool) (o r : Option ℕ) → on_both test o r ≡ true → (x y : ℕ) × (o ≡ Some x) × (r ≡ Some y) × (test x y ≡ true)
on_both_true test None r e = absurd (false≢true e)
on_both_true test (Some x) None e = absurd (false≢true e)
on_both_true test (Some x) (Some y) e = (x, y, refl, refl, e)

pub on_both_at : (test : ℕ → ℕ → Bool) {o r : Option ℕ} {x y : ℕ} → o ≡ Some x → r ≡ Some y → on_both test o r ≡ test x y
on_both_at test {o} {r} {x} e d = ap (λ v. on_both test v r) e ∙ ap (λ v. on_both test (Some x) v) d

pub some_of : {A : Type 0} (o : Option A) → is_some o ≡ true → (x : A) × (o ≡ Some x)
some_of None e = absurd (false≢true e)
some_of (Some x) e = (x, refl)

pub beq_same : {a b : Bool} → a ≡ b → beq a b ≡ true
beq_same {a} {b} e = subst (λ v. beq a v ≡ true) e (itself a)
  where
    itself : (a : Bool) → beq a a ≡ true
    itself true = refl
    itself false = refl

pub implies : (a b : Bool) → (a ≡ true → b ≡ true) → (not a || b) ≡ true
implies true b h = h refl
implies false b h = refl

-- ---- what fits is shown

module _ (F : Frame) (S : Scene) where
  pub shown_says : (part : Part) → part_fits F part ≡ true → shown F S part ≡ says F S part
  shown_says part fits = ap (λ b. b && says F S part) fits

  pub shown_true : (part : Part) → shown F S part ≡ true → (part_fits F part ≡ true) × (says F S part ≡ true)
  shown_true part e = and_parts (part_fits F part) (says F S part) e

  -- ---- a name in the place of another of the same node

  pub same_named : (i j : ℕ) → shown F S (Part.Same i j) ≡ true → S.named i ≡ S.named j
  same_named i j e = let w = is_node_true (S.named i) (S.named j) (shown_true (Part.Same i j) e).1 in w.1 ∙ sym w.2

  module _ (i j : ℕ) (same : S.named i ≡ S.named j) where
    named_instead : (n : ℕ) → S.named (instead i j n) ≡ S.named n
    named_instead n =
        elim (cases_Bool (n == j)) [
          | inl e ↦ ap S.named (cond-true (n == j) i n e) ∙ same ∙ ap S.named (sym (eqb-true n j e))
          | inr d ↦ ap S.named (cond-false (n == j) i n d)
        ]

    from_instead : (n f : ℕ) → leads_from S (S.named (instead i j n)) f ≡ leads_from S (S.named n) f
    from_instead n f = ap (λ o. leads_from S o f) (named_instead n)

    -- in a term of the order
    key_instead : (t : Term) → key_in F S (rename_term (instead i j) t) ≡ key_in F S t
    key_instead (Term.Node n) = ap (λ o. option_map_or (λ x. (node_at S x).key) o Key.Min) (named_instead n)
    key_instead Term.Min = refl
    key_instead Term.Max = refl
    key_instead (Term.Walked k) = refl
    key_instead (Term.Stop k s) = refl

    pub says_instead : (part : Part) → says F S (rename_part (instead i j) part) ≡ says F S part
    says_instead (Part.Null n) = ap is_none (named_instead n)
    says_instead (Part.Same n m) = ap₂ is_node (named_instead n) (named_instead m)
    says_instead (Part.Flag n f) = ap (on (λ x. is_bit_set (node_at S x).flags f)) (named_instead n)
    says_instead (Part.Shared n) = ap (on (is_shared_in S)) (named_instead n)
    says_instead (Part.Mine n) = ap (on (is_mine_in S)) (named_instead n)
    says_instead (Part.Locked n) = ap (on (λ x. is_some (node_at S x).lock)) (named_instead n)
    says_instead (Part.LockMine n) = ap (on (λ x. has_lock S.own (node_at S x))) (named_instead n)
    says_instead (Part.LockOthers n) = ap (on (λ x. has_others_lock S (node_at S x))) (named_instead n)
    says_instead (Part.PointerNull p) = ap (on (λ x. is_none (leads S x p.pointer))) (named_instead p.name)
    says_instead (Part.Beyond p) = ap (is_nameless F S) (from_instead p.name p.pointer)
    says_instead (Part.Leads p m) = ap₂ is_node (from_instead p.name p.pointer) (named_instead m)
    says_instead (Part.SameBeyond p q) =
        ap₂ (λ a b. is_nameless F S a && is_node a b) (from_instead p.name p.pointer) (from_instead q.name q.pointer)
    says_instead (Part.AtMost s t) = ap₂ is_at_most (key_instead s) (key_instead t)
    says_instead (Part.Visits k n) = ap (on (walk_visits F.header S.heap (S.walked k))) (named_instead n)
    says_instead (Part.InSet k) = refl
    says_instead Part.Spent = refl
    says_instead (Part.Chain n m) = ap₂ (on_both (is_chain F.header S)) (named_instead n) (named_instead m)
    says_instead (Part.Picks k n m s) = ap₂ (on_both (picks_in F S k s)) (named_instead n) (named_instead m)
    says_instead (Part.StopFlag k s f) = refl
    says_instead (Part.StopVisited k s) = refl

    name_instead : (n : ℕ) → i < F.names → nat_lt n F.names ≡ true → nat_lt (instead i j n) F.names ≡ true
    name_instead n h e =
        elim (cases_Bool (n == j)) [
          | inl s ↦ ap (λ v. nat_lt v F.names) (cond-true (n == j) i n s) ∙ lt-ltb i F.names h
          | inr d ↦ ap (λ v. nat_lt v F.names) (cond-false (n == j) i n d) ∙ e
        ]

    both_fit : (a b c d : Bool) → (a ≡ true → c ≡ true) → (b ≡ true → d ≡ true) → (a && b) ≡ true → (c && d) ≡ true
    both_fit a b c d f g e = let w = and_parts a b e in and_from c d (f w.0) (g w.1)

    place_instead : (p : Place) → i < F.names → place_fits F p ≡ true → place_fits F (rename (instead i j) p) ≡ true
    place_instead p h = both_fit _ _ _ _ (name_instead p.name h) (λ e. e)

    term_instead : (t : Term) → i < F.names → term_fits F t ≡ true → term_fits F (rename_term (instead i j) t) ≡ true
    term_instead (Term.Node n) h e = name_instead n h e
    term_instead Term.Min h e = e
    term_instead Term.Max h e = e
    term_instead (Term.Walked k) h e = e
    term_instead (Term.Stop k s) h e = e

    pub fits_instead : (part : Part) → i < F.names → part_fits F part ≡ true → part_fits F (rename_part (instead i j) part) ≡ true
    fits_instead (Part.Null n) h = name_instead n h
    fits_instead (Part.Same n m) h = both_fit _ _ _ _ (name_instead n h) (name_instead m h)
    fits_instead (Part.Flag n f) h = both_fit _ _ _ _ (name_instead n h) (λ e. e)
    fits_instead (Part.Shared n) h = name_instead n h
    fits_instead (Part.Mine n) h = name_instead n h
    fits_instead (Part.Locked n) h = both_fit _ _ _ _ (name_instead n h) (λ e. e)
    fits_instead (Part.LockMine n) h = both_fit _ _ _ _ (name_instead n h) (λ e. e)
    fits_instead (Part.LockOthers n) h = both_fit _ _ _ _ (name_instead n h) (λ e. e)
    fits_instead (Part.PointerNull p) h = place_instead p h
    fits_instead (Part.Beyond p) h = place_instead p h
    fits_instead (Part.Leads p m) h = both_fit _ _ _ _ (place_instead p h) (name_instead m h)
    fits_instead (Part.SameBeyond p q) h = both_fit _ _ _ _ (place_instead p h) (place_instead q h)
    fits_instead (Part.AtMost s t) h = both_fit _ _ _ _ (term_instead s h) (term_instead t h)
    fits_instead (Part.Visits k n) h = name_instead n h
    fits_instead (Part.InSet k) h = λ e. e
    fits_instead Part.Spent h = λ e. e
    fits_instead (Part.Chain n m) h = both_fit _ _ _ _ (name_instead n h) (name_instead m h)
    fits_instead (Part.Picks k n m s) h = both_fit _ _ _ _ (both_fit _ _ _ _ (name_instead n h) (name_instead m h)) (λ e. e)
    fits_instead (Part.StopFlag k s f) h = λ e. e
    fits_instead (Part.StopVisited k s) h = λ e. e

  -- the names of one node agree on every part
  pub names_agree : (i j : ℕ) (part : Part) → i < F.names → part_fits F part ≡ true → agrees (shown F S) i j part ≡ true
  names_agree i j part h fits =
      implies (shown F S (Part.Same i j)) _ (λ e. let same = same_named i j e in
      beq_same (shown_says (rename_part (instead i j) part) (fits_instead i j same part h fits) ∙ says_instead i j same part ∙ sym (shown_says part fits)))

-- the key of a name is that of its node
pub key_named : (F : Frame) (S : Scene) (i x : ℕ) → S.named i ≡ Some x → key_in F S (Term.Node i) ≡ (node_at S x).key
key_named F S i x e = ap (λ o. option_map_or (λ y. (node_at S y).key) o Key.Min) e

-- a node that is there
pub node_found : (S : Scene) (x : ℕ) (node : Node) → slice_get S.heap.nodes x ≡ Some node → node_at S x ≡ node
node_found S x node e = ap (λ o. unwrap_or o (fresh_node (S.unborn x))) e
