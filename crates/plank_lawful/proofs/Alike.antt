-- A picture that meets the rules of possible pictures: its parts say the same of the names of one node, and nothing of a
-- name that is null.
use Rattle.std.proofs.Common.{◌≡◌, ℕ, zero, suc, ◌<◌, ◌==◌, Bool, true, false, not, length, refl, sym, ◌∙◌, ap, subst, inl, inr, arith}
use Rattle.std.specs.Prelude.{◌&&◌, ◌||◌, nat_lt, if◌then◌else◌}
use Rattle.std.specs.Bool.{beq}
use Rattle.std.proofs.lemmas.Bool.{and_parts, and_from, lt-ltb, ltb-true, eqb-true, cond-true, cond-false}
use Rattle.plank_pic.specs.declared.parts.KeyName.{KeyName}
use Rattle.plank_pic.specs.declared.parts.Term.{Term}
use Rattle.plank_pic.specs.declared.parts.Place.{Place}
use Rattle.plank_pic.specs.declared.parts.Part.{Part}
use Rattle.plank_pic.specs.Frames.{Frame}
use Rattle.plank_pic.specs.Pictures.{Picture, place, same_key, is_fast}
use Rattle.plank_pic.specs.Renaming.{rename_term, rename_part, instead}
use Rattle.plank_pic.specs.Lawful as lawful
use Rattle.plank_pic.specs.Lawful.{◌⇒◌, part_fits, place_fits, term_fits, lock_fits, slot_count, speaks_of, chains_are_there}
use Rattle.plank_pic.proofs.EachName.{told, same_bits}
use Rattle.plank_lawful.specs.declared.asking.Asked.{Asked}
use Rattle.plank_lawful.specs.declared.families.NodeRule.{NodeRule}
use Rattle.plank_lawful.specs.declared.families.Family.{Family}
use Rattle.plank_lawful.specs.Asked.{passes}
use Rattle.plank_lawful.specs.Rules
use Rattle.plank_lawful.specs.Families.{count, shape_of, is_possible}
use Rattle.plank_lawful.specs.Laws.{SaysNoOutside, MeetsPossible}
use Rattle.plank_lawful.proofs.Asked.{each_passes}
use Rattle.plank_lawful.proofs.Tests.{implied, level, beq_of, tri, one}
use Rattle.plank_lawful.proofs.Meeting as so

module _ (F : Frame) (p : Picture) (says : SaysNoOutside F p) (meets : MeetsPossible F p) where
  at : (family : Family) (a b c : ℕ) → is_possible family ≡ true → a < count F (shape_of family).first 0 → b < count F (shape_of family).second a → c < count F (shape_of family).third a
      → Rules.family_holds F p family a b c ≡ true
  at family a b c poss ha hb hc = meets (record { family = family; first = a; second = b; third = c }) poss (record { first = ha; second = hb; third = hc })

  in_chains : slot_count F ≡ 2 → (i : ℕ) → i < F.names → i < (if slot_count F == 0 then 0 else F.names)
  in_chains two i bi = subst (λ s. i < (if s == 0 then 0 else F.names)) (sym two) bi

  module _ (i j : ℕ) (bi : i < F.names) (bj : j < F.names) (same : p (Part.Same i j) ≡ true) where
    small : (n : ℕ) → n < F.names → instead i j n < F.names
    small n bn = by_bit (n == j) refl
      where
        by_bit : (b : Bool) → (n == j) ≡ b → instead i j n < F.names
        by_bit true e = subst (λ v. v < F.names) (sym (cond-true (n == j) i n e)) bi
        by_bit false e = subst (λ v. v < F.names) (sym (cond-false (n == j) i n e)) bn

    only : (f : ℕ → Bool) → f i ≡ f j → (m : ℕ) → f (instead i j m) ≡ f m
    only f e m = by_bit (m == j) refl
      where
        by_bit : (b : Bool) → (m == j) ≡ b → f (instead i j m) ≡ f m
        by_bit true k = ap f (cond-true (m == j) i m k) ∙ e ∙ ap f (sym (eqb-true m j k))
        by_bit false k = ap f (cond-false (m == j) i m k)

    both : (f : ℕ → ℕ → Bool) → ((n : ℕ) → n < F.names → f i n ≡ f j n) → ((n : ℕ) → n < F.names → f n i ≡ f n j) → (m n : ℕ) → m < F.names → n < F.names → f (instead i j m) (instead i j n) ≡ f m n
    both f first second m n bm bn = only (λ v. f v (instead i j n)) (first (instead i j n) (small n bn)) m ∙ only (λ v. f m v) (second m bm) n

    spread : (f : ℕ → Bool) → ((a b : ℕ) → b < a → a < F.names → p (Part.Same a b) ≡ true → f a ≡ f b) → f i ≡ f j
    spread f lower = so.spread F p says meets f lower i j bi bj same

    -- what the rules of one node say, for the greater and the lesser name
    node_of : (a b : ℕ) → b < a → a < F.names → p (Part.Same a b) ≡ true → (Rules.owners_agree p a b && Rules.locks_agree p a b && same_key p (Term.Node a) (Term.Node b)) ≡ true
    node_of a b h ba e = told _ _ (at (Family.Nodes NodeRule.Node) a b 0 refl ba h one) e

    owners_of : (a b : ℕ) → b < a → a < F.names → p (Part.Same a b) ≡ true → Rules.owners_agree p a b ≡ true
    owners_of a b h ba e = (and_parts (Rules.owners_agree p a b) (Rules.locks_agree p a b) (and_parts (Rules.owners_agree p a b && Rules.locks_agree p a b) (same_key p (Term.Node a) (Term.Node b)) (node_of a b h ba e)).0).0

    locks_of : (a b : ℕ) → b < a → a < F.names → p (Part.Same a b) ≡ true → Rules.locks_agree p a b ≡ true
    locks_of a b h ba e = (and_parts (Rules.owners_agree p a b) (Rules.locks_agree p a b) (and_parts (Rules.owners_agree p a b && Rules.locks_agree p a b) (same_key p (Term.Node a) (Term.Node b)) (node_of a b h ba e)).0).1

    keys_of : (a b : ℕ) → b < a → a < F.names → p (Part.Same a b) ≡ true → same_key p (Term.Node a) (Term.Node b) ≡ true
    keys_of a b h ba e = (and_parts (Rules.owners_agree p a b && Rules.locks_agree p a b) (same_key p (Term.Node a) (Term.Node b)) (node_of a b h ba e)).1

    shared : p (Part.Shared i) ≡ p (Part.Shared j)
    shared = spread (λ m. p (Part.Shared m)) (λ a b h ba e. same_bits _ _ (and_parts (beq (p (Part.Shared a)) (p (Part.Shared b))) (beq (p (Part.Mine a)) (p (Part.Mine b))) (owners_of a b h ba e)).0)

    mine : p (Part.Mine i) ≡ p (Part.Mine j)
    mine = spread (λ m. p (Part.Mine m)) (λ a b h ba e. same_bits _ _ (and_parts (beq (p (Part.Shared a)) (p (Part.Shared b))) (beq (p (Part.Mine a)) (p (Part.Mine b))) (owners_of a b h ba e)).1)

    locked_alike : (a b : ℕ) → b < a → a < F.names → p (Part.Same a b) ≡ true → (beq (p (Part.Locked a)) (p (Part.Locked b)) && beq (p (Part.LockMine a)) (p (Part.LockMine b))) ≡ true
    locked_alike a b h ba e = (and_parts (beq (p (Part.Locked a)) (p (Part.Locked b)) && beq (p (Part.LockMine a)) (p (Part.LockMine b))) (beq (p (Part.LockOthers a)) (p (Part.LockOthers b))) (locks_of a b h ba e)).0

    locked : p (Part.Locked i) ≡ p (Part.Locked j)
    locked = spread (λ m. p (Part.Locked m)) (λ a b h ba e. same_bits _ _ (and_parts (beq (p (Part.Locked a)) (p (Part.Locked b))) (beq (p (Part.LockMine a)) (p (Part.LockMine b))) (locked_alike a b h ba e)).0)

    lock_mine : p (Part.LockMine i) ≡ p (Part.LockMine j)
    lock_mine = spread (λ m. p (Part.LockMine m)) (λ a b h ba e. same_bits _ _ (and_parts (beq (p (Part.Locked a)) (p (Part.Locked b))) (beq (p (Part.LockMine a)) (p (Part.LockMine b))) (locked_alike a b h ba e)).1)

    lock_others : p (Part.LockOthers i) ≡ p (Part.LockOthers j)
    lock_others = spread (λ m. p (Part.LockOthers m)) (λ a b h ba e.
        same_bits _ _ (and_parts (beq (p (Part.Locked a)) (p (Part.Locked b)) && beq (p (Part.LockMine a)) (p (Part.LockMine b))) (beq (p (Part.LockOthers a)) (p (Part.LockOthers b))) (locks_of a b h ba e)).1)

    flag : (f : ℕ) → f < length F.header.flags → p (Part.Flag i f) ≡ p (Part.Flag j f)
    flag f bf = spread (λ m. p (Part.Flag m f)) (λ a b h ba e. same_bits _ _ (told _ _ (at (Family.Nodes NodeRule.Flags) a b f refl ba h bf) e))

    visits : (k : KeyName) → p (Part.Visits k i) ≡ p (Part.Visits k j)
    visits k = spread (λ m. p (Part.Visits k m)) (λ a b h ba e. same_bits _ _ (told _ _ (so.of_key F p says meets (λ v. Rules.visits_agree p a b v) (λ n bn. at (Family.Nodes NodeRule.Visits) a b n refl ba h bn) k) e))

    -- keys: both lie at or below the same, and at or above
    same_keys : same_key p (Term.Node i) (Term.Node j) ≡ true
    same_keys =
        elim (tri i j) [
          | inl below ↦ keys_of i j below bi same
          | inr more ↦ elim more [
            | inl equal ↦ subst (λ v. same_key p (Term.Node i) (Term.Node v) ≡ true) equal (and_from _ _ whole whole)
            | inr above ↦ (let w = and_parts (p (Part.AtMost (Term.Node j) (Term.Node i))) (p (Part.AtMost (Term.Node i) (Term.Node j))) (keys_of j i above bj (so.back F p says meets i j bi bj same)) in and_from _ _ w.1 w.0)
          ]
        ]
      where
        double : (b : Bool) → (b || b) ≡ true → b ≡ true
        double true e = e
        double false e = e

        whole : p (Part.AtMost (Term.Node i) (Term.Node i)) ≡ true
        whole = double _ (so.total F p says meets (Term.Node i) (Term.Node i) (lt-ltb i F.names bi) (lt-ltb i F.names bi))

    at_most : (t : Term) → term_fits F t ≡ true → p (Part.AtMost (Term.Node i) t) ≡ p (Part.AtMost (Term.Node j) t)
    at_most t fits =
        let w = and_parts (p (Part.AtMost (Term.Node i) (Term.Node j))) (p (Part.AtMost (Term.Node j) (Term.Node i))) same_keys in
        level _ _
        (λ e. told _ _ (so.in_order F p says meets (Term.Node j) (Term.Node i) t (lt-ltb j F.names bj) (lt-ltb i F.names bi) fits) (and_from _ _ w.1 e))
        (λ e. told _ _ (so.in_order F p says meets (Term.Node i) (Term.Node j) t (lt-ltb i F.names bi) (lt-ltb j F.names bj) fits) (and_from _ _ w.0 e))

    at_least : (t : Term) → term_fits F t ≡ true → p (Part.AtMost t (Term.Node i)) ≡ p (Part.AtMost t (Term.Node j))
    at_least t fits =
        let w = and_parts (p (Part.AtMost (Term.Node i) (Term.Node j))) (p (Part.AtMost (Term.Node j) (Term.Node i))) same_keys in
        level _ _
        (λ e. told _ _ (so.in_order F p says meets t (Term.Node i) (Term.Node j) fits (lt-ltb i F.names bi) (lt-ltb j F.names bj)) (and_from _ _ e w.0))
        (λ e. told _ _ (so.in_order F p says meets t (Term.Node j) (Term.Node i) fits (lt-ltb j F.names bj) (lt-ltb i F.names bi)) (and_from _ _ e w.1))

    terms_stay : (t : Term) → term_fits F t ≡ true → term_fits F (rename_term (instead i j) t) ≡ true
    terms_stay (Term.Node m) e = lt-ltb (instead i j m) F.names (small m (ltb-true m F.names e))
    terms_stay Term.Min e = refl
    terms_stay Term.Max e = refl
    terms_stay (Term.Walked k) e = refl
    terms_stay (Term.Stop k s) e = e

    left_term : (s t : Term) → term_fits F t ≡ true → p (Part.AtMost (rename_term (instead i j) s) t) ≡ p (Part.AtMost s t)
    left_term (Term.Node m) t e = only (λ v. p (Part.AtMost (Term.Node v) t)) (at_most t e) m
    left_term Term.Min t e = refl
    left_term Term.Max t e = refl
    left_term (Term.Walked k) t e = refl
    left_term (Term.Stop k s) t e = refl

    right_term : (s t : Term) → term_fits F s ≡ true → p (Part.AtMost s (rename_term (instead i j) t)) ≡ p (Part.AtMost s t)
    right_term s (Term.Node m) e = only (λ v. p (Part.AtMost s (Term.Node v))) (at_least s e) m
    right_term s Term.Min e = refl
    right_term s Term.Max e = refl
    right_term s (Term.Walked k) e = refl
    right_term s (Term.Stop k t) e = refl

    -- pointers
    pointers_of : (f : ℕ) → f < length F.header.pointers → (a b : ℕ) → b < a → a < F.names → p (Part.Same a b) ≡ true
        → (Rules.ends_agree p (place a f) (place b f) && Rules.each_name F p (Asked.LeadsAlike a b f)) ≡ true
    pointers_of f bf a b h ba e = told _ _ (at (Family.Nodes NodeRule.Pointers) a b f refl ba h bf) e

    ends_of : (f : ℕ) → f < length F.header.pointers → (a b : ℕ) → b < a → a < F.names → p (Part.Same a b) ≡ true → Rules.ends_agree p (place a f) (place b f) ≡ true
    ends_of f bf a b h ba e = (and_parts (Rules.ends_agree p (place a f) (place b f)) (Rules.each_name F p (Asked.LeadsAlike a b f)) (pointers_of f bf a b h ba e)).0

    leads_of : (f : ℕ) → f < length F.header.pointers → (n : ℕ) → n < F.names → (a b : ℕ) → b < a → a < F.names → p (Part.Same a b) ≡ true → passes p (Asked.LeadsAlike a b f) n ≡ true
    leads_of f bf n bn a b h ba e = each_passes (passes p (Asked.LeadsAlike a b f)) F.names (and_parts (Rules.ends_agree p (place a f) (place b f)) (Rules.each_name F p (Asked.LeadsAlike a b f)) (pointers_of f bf a b h ba e)).1 n bn

    outer_of : (f : ℕ) → f < length F.header.pointers → (a b : ℕ) → b < a → a < F.names → p (Part.Same a b) ≡ true
        → (beq (p (Part.PointerNull (place a f))) (p (Part.PointerNull (place b f))) && beq (p (Part.Beyond (place a f))) (p (Part.Beyond (place b f)))) ≡ true
    outer_of f bf a b h ba e = (and_parts (beq (p (Part.PointerNull (place a f))) (p (Part.PointerNull (place b f))) && beq (p (Part.Beyond (place a f))) (p (Part.Beyond (place b f)))) (p (Part.Beyond (place a f)) ⇒ p (Part.SameBeyond (place a f) (place b f))) (ends_of f bf a b h ba e)).0

    pointer_null : (f : ℕ) → f < length F.header.pointers → p (Part.PointerNull (place i f)) ≡ p (Part.PointerNull (place j f))
    pointer_null f bf = spread (λ m. p (Part.PointerNull (place m f))) (λ a b h ba e.
        same_bits _ _ (and_parts (beq (p (Part.PointerNull (place a f))) (p (Part.PointerNull (place b f)))) (beq (p (Part.Beyond (place a f))) (p (Part.Beyond (place b f)))) (outer_of f bf a b h ba e)).0)

    beyond : (f : ℕ) → f < length F.header.pointers → p (Part.Beyond (place i f)) ≡ p (Part.Beyond (place j f))
    beyond f bf = spread (λ m. p (Part.Beyond (place m f))) (λ a b h ba e.
        same_bits _ _ (and_parts (beq (p (Part.PointerNull (place a f))) (p (Part.PointerNull (place b f)))) (beq (p (Part.Beyond (place a f))) (p (Part.Beyond (place b f)))) (outer_of f bf a b h ba e)).1)

    leads : (f n : ℕ) → f < length F.header.pointers → n < F.names → p (Part.Leads (place i f) n) ≡ p (Part.Leads (place j f) n)
    leads f n bf bn = spread (λ m. p (Part.Leads (place m f) n)) (λ a b h ba e.
        same_bits _ _ (and_parts (beq (p (Part.Leads (place a f) n)) (p (Part.Leads (place b f) n))) (beq (p (Part.Leads (place n f) a)) (p (Part.Leads (place n f) b))) (leads_of f bf n bn a b h ba e)).0)

    led : (f n : ℕ) → f < length F.header.pointers → n < F.names → p (Part.Leads (place n f) i) ≡ p (Part.Leads (place n f) j)
    led f n bf bn = spread (λ m. p (Part.Leads (place n f) m)) (λ a b h ba e.
        same_bits _ _ (and_parts (beq (p (Part.Leads (place a f) n)) (p (Part.Leads (place b f) n))) (beq (p (Part.Leads (place n f) a)) (p (Part.Leads (place n f) b))) (leads_of f bf n bn a b h ba e)).1)

    -- pointers that lead outside, with a third
    beyond_too : (f : ℕ) → f < length F.header.pointers → (z : Place) → place_fits F z ≡ true → p (Part.SameBeyond (place i f) z) ≡ p (Part.SameBeyond (place j f) z)
    beyond_too f bf z fz = spread (λ m. p (Part.SameBeyond (place m f) z)) lower
      where
        fits : (a : ℕ) → a < F.names → place_fits F (place a f) ≡ true
        fits a ba = and_from _ _ (lt-ltb a F.names ba) (lt-ltb f (length F.header.pointers) bf)

        lower : (a b : ℕ) → b < a → a < F.names → p (Part.Same a b) ≡ true → p (Part.SameBeyond (place a f) z) ≡ p (Part.SameBeyond (place b f) z)
        lower a b h ba e =
            let bb : b < F.names = omega arith in
            let alike = (and_parts (beq (p (Part.PointerNull (place a f))) (p (Part.PointerNull (place b f)))) (beq (p (Part.Beyond (place a f))) (p (Part.Beyond (place b f)))) (outer_of f bf a b h ba e)).1 in
            let one_end = (and_parts (beq (p (Part.PointerNull (place a f))) (p (Part.PointerNull (place b f))) && beq (p (Part.Beyond (place a f))) (p (Part.Beyond (place b f)))) (p (Part.Beyond (place a f)) ⇒ p (Part.SameBeyond (place a f) (place b f))) (ends_of f bf a b h ba e)).1 in
            level _ _
            (λ u. sym (so.beyond_together F p says meets (place a f) (place b f) z (fits a ba) (fits b bb) fz (told _ _ one_end (so.is_beyond F p says meets (place a f) z (fits a ba) fz u))) ∙ u)
            (λ u. so.beyond_together F p says meets (place a f) (place b f) z (fits a ba) (fits b bb) fz (told _ _ one_end (same_bits _ _ alike ∙ so.is_beyond F p says meets (place b f) z (fits b bb) fz u)) ∙ u)

    beyond_turned : (x y : Place) → place_fits F x ≡ true → place_fits F y ≡ true → p (Part.SameBeyond x y) ≡ p (Part.SameBeyond y x)
    beyond_turned x y fx fy = level _ _ (λ e. told _ _ (so.beyond_back F p says meets x y fx fy) e) (λ e. told _ _ (so.beyond_back F p says meets y x fy fx) e)

    -- chains, and without them the names of a node
    chain_is_same : slot_count F ≡ 0 → (m n : ℕ) → m < F.names → n < F.names → p (Part.Chain m n) ≡ p (Part.Same m n)
    chain_is_same none m n bm bn = level _ _ (λ e. by_same (p (Part.Same m n)) refl e) (λ e. told _ _ (so.chain_itself F p says meets m n bm bn) e)
      where
        by_same : (b : Bool) → p (Part.Same m n) ≡ b → p (Part.Chain m n) ≡ true → p (Part.Same m n) ≡ true
        by_same true e chain = e
        by_same false e chain =
            let begins = and_parts (chains_are_there F && is_fast F.header p m) (not (p (Part.PointerNull (place m 0)))) (told _ _ (so.chain_first F p says meets m n bm bn) (and_from _ _ chain (ap not e))) in
            let w = and_parts (chains_are_there F) (is_fast F.header p m) begins.0 in
            absurd (so.none_fast F p says meets none m w.0 w.1)

    same_turned : (m n : ℕ) → m < F.names → n < F.names → p (Part.Same m n) ≡ p (Part.Same n m)
    same_turned m n bm bn = level _ _ (so.back F p says meets m n bm bn) (so.back F p says meets n m bn bm)

    same_left : (n : ℕ) → n < F.names → p (Part.Same i n) ≡ p (Part.Same j n)
    same_left n bn = so.together F p says meets n bn i j bi bj same

    same_right : (n : ℕ) → n < F.names → p (Part.Same n i) ≡ p (Part.Same n j)
    same_right n bn = same_turned n i bn bi ∙ same_left n bn ∙ same_turned j n bj bn

    chains_of : slot_count F ≡ 2 → (n : ℕ) → n < F.names → (a b : ℕ) → b < a → a < F.names → p (Part.Same a b) ≡ true → passes p (Asked.ChainsAlike a b) n ≡ true
    chains_of two n bn a b h ba e = each_passes (passes p (Asked.ChainsAlike a b)) F.names (told _ _ (at (Family.Nodes NodeRule.Chains) a b 0 refl (in_chains two a ba) h one) e) n bn

    chains : (n : ℕ) → n < F.names → p (Part.Chain i n) ≡ p (Part.Chain j n)
    chains n bn =
        elim (so.slots_or_none F p says meets) [
          | inl two ↦ spread (λ m. p (Part.Chain m n)) (λ a b h ba e. same_bits _ _ (and_parts (beq (p (Part.Chain a n)) (p (Part.Chain b n))) (beq (p (Part.Chain n a)) (p (Part.Chain n b))) (chains_of two n bn a b h ba e)).0)
          | inr none ↦ chain_is_same none i n bi bn ∙ same_left n bn ∙ sym (chain_is_same none j n bj bn)
        ]

    chained : (n : ℕ) → n < F.names → p (Part.Chain n i) ≡ p (Part.Chain n j)
    chained n bn =
        elim (so.slots_or_none F p says meets) [
          | inl two ↦ spread (λ m. p (Part.Chain n m)) (λ a b h ba e. same_bits _ _ (and_parts (beq (p (Part.Chain a n)) (p (Part.Chain b n))) (beq (p (Part.Chain n a)) (p (Part.Chain n b))) (chains_of two n bn a b h ba e)).1)
          | inr none ↦ chain_is_same none n i bn bi ∙ same_right n bn ∙ sym (chain_is_same none n j bn bj)
        ]

    picks_of : (k : KeyName) (s : ℕ) → s < slot_count F → (n : ℕ) → n < F.names → (a b : ℕ) → b < a → a < F.names → p (Part.Same a b) ≡ true → passes p (Asked.PicksAlike k (Rules.pair a b) s) n ≡ true
    picks_of k s hs n bn a b h ba e =
        elim (so.slots_or_none F p says meets) [
          | inl two ↦ (let both = and_parts (Rules.each_name F p (Asked.PicksAlike k (Rules.pair a b) 0)) (Rules.each_name F p (Asked.PicksAlike k (Rules.pair a b) 1))
              (told _ _ (so.of_key F p says meets (λ v. Rules.picks_agree F p a b v) (λ m bm. at (Family.Nodes NodeRule.Picks) a b m refl (in_chains two a ba) h bm) k) e) in
              by_slot s (subst (λ v. s < v) two hs) both.0 both.1)
          | inr none ↦ (let no : s < 0 = subst (λ v. s < v) none hs in absurd (omega arith))
        ]
      where
        by_slot : (s : ℕ) → s < 2 → Rules.each_name F p (Asked.PicksAlike k (Rules.pair a b) 0) ≡ true → Rules.each_name F p (Asked.PicksAlike k (Rules.pair a b) 1) ≡ true → passes p (Asked.PicksAlike k (Rules.pair a b) s) n ≡ true
        by_slot zero h first second = each_passes (passes p (Asked.PicksAlike k (Rules.pair a b) 0)) F.names first n bn
        by_slot (suc zero) h first second = each_passes (passes p (Asked.PicksAlike k (Rules.pair a b) 1)) F.names second n bn
        by_slot (suc (suc s)) h first second = absurd (omega arith)

    picks : (k : KeyName) (s : ℕ) → s < slot_count F → (n : ℕ) → n < F.names → p (Part.Picks k i n s) ≡ p (Part.Picks k j n s)
    picks k s hs n bn = spread (λ m. p (Part.Picks k m n s)) (λ a b h ba e. same_bits _ _ (and_parts (beq (p (Part.Picks k a n s)) (p (Part.Picks k b n s))) (beq (p (Part.Picks k n a s)) (p (Part.Picks k n b s))) (picks_of k s hs n bn a b h ba e)).0)

    picked : (k : KeyName) (s : ℕ) → s < slot_count F → (n : ℕ) → n < F.names → p (Part.Picks k n i s) ≡ p (Part.Picks k n j s)
    picked k s hs n bn = spread (λ m. p (Part.Picks k n m s)) (λ a b h ba e. same_bits _ _ (and_parts (beq (p (Part.Picks k a n s)) (p (Part.Picks k b n s))) (beq (p (Part.Picks k n a s)) (p (Part.Picks k n b s))) (picks_of k s hs n bn a b h ba e)).1)

    renamed_alike : (part : Part) → part_fits F part ≡ true → p (rename_part (instead i j) part) ≡ p part
    renamed_alike (Part.Null m) fits = only (λ v. p (Part.Null v)) (so.not_null F p says meets i j bi bj same ∙ sym (so.not_null F p says meets j i bj bi (so.back F p says meets i j bi bj same))) m
    renamed_alike (Part.Same m n) fits = let w = and_parts _ _ fits in both (λ a b. p (Part.Same a b)) same_left same_right m n (ltb-true m F.names w.0) (ltb-true n F.names w.1)
    renamed_alike (Part.Flag m f) fits = only (λ v. p (Part.Flag v f)) (flag f (ltb-true f (length F.header.flags) (and_parts _ _ fits).1)) m
    renamed_alike (Part.Shared m) fits = only (λ v. p (Part.Shared v)) shared m
    renamed_alike (Part.Mine m) fits = only (λ v. p (Part.Mine v)) mine m
    renamed_alike (Part.Locked m) fits = only (λ v. p (Part.Locked v)) locked m
    renamed_alike (Part.LockMine m) fits = only (λ v. p (Part.LockMine v)) lock_mine m
    renamed_alike (Part.LockOthers m) fits = only (λ v. p (Part.LockOthers v)) lock_others m
    renamed_alike (Part.PointerNull x) fits = only (λ v. p (Part.PointerNull (place v x.pointer))) (pointer_null x.pointer (ltb-true _ _ (and_parts _ _ fits).1)) x.name
    renamed_alike (Part.Beyond x) fits = only (λ v. p (Part.Beyond (place v x.pointer))) (beyond x.pointer (ltb-true _ _ (and_parts _ _ fits).1)) x.name
    renamed_alike (Part.Leads x n) fits =
        let w = and_parts (place_fits F x) (nat_lt n F.names) fits in let u = and_parts (nat_lt x.name F.names) (nat_lt x.pointer (length F.header.pointers)) w.0 in
        let bf = ltb-true x.pointer (length F.header.pointers) u.1 in
        both (λ a b. p (Part.Leads (place a x.pointer) b)) (λ m bm. leads x.pointer m bf bm) (λ m bm. led x.pointer m bf bm) x.name n (ltb-true x.name F.names u.0) (ltb-true n F.names w.1)
    renamed_alike (Part.SameBeyond x y) fits =
        let w = and_parts (place_fits F x) (place_fits F y) fits in
        let u = and_parts (nat_lt x.name F.names) (nat_lt x.pointer (length F.header.pointers)) w.0 in let v = and_parts (nat_lt y.name F.names) (nat_lt y.pointer (length F.header.pointers)) w.1 in
        both (λ a b. p (Part.SameBeyond (place a x.pointer) (place b y.pointer)))
        (λ m bm. beyond_too x.pointer (ltb-true x.pointer (length F.header.pointers) u.1) (place m y.pointer) (and_from _ _ (lt-ltb m F.names bm) v.1))
        (λ m bm.
        let fm : place_fits F (place m x.pointer) ≡ true = and_from _ _ (lt-ltb m F.names bm) u.1 in
        beyond_turned (place m x.pointer) (place i y.pointer) fm (and_from _ _ (lt-ltb i F.names bi) v.1)
        ∙ beyond_too y.pointer (ltb-true y.pointer (length F.header.pointers) v.1) (place m x.pointer) fm
        ∙ beyond_turned (place j y.pointer) (place m x.pointer) (and_from _ _ (lt-ltb j F.names bj) v.1) fm)
        x.name y.name (ltb-true x.name F.names u.0) (ltb-true y.name F.names v.0)
    renamed_alike (Part.AtMost s t) fits = let w = and_parts (term_fits F s) (term_fits F t) fits in left_term s (rename_term (instead i j) t) (terms_stay t w.1) ∙ right_term s t w.0
    renamed_alike (Part.Visits k m) fits = only (λ v. p (Part.Visits k v)) (visits k) m
    renamed_alike (Part.InSet k) fits = refl
    renamed_alike Part.Spent fits = refl
    renamed_alike (Part.Chain m n) fits = let w = and_parts _ _ fits in both (λ a b. p (Part.Chain a b)) chains chained m n (ltb-true m F.names w.0) (ltb-true n F.names w.1)
    renamed_alike (Part.Picks k m n s) fits =
        let w = and_parts (nat_lt m F.names && nat_lt n F.names) (nat_lt s (slot_count F)) fits in let u = and_parts (nat_lt m F.names) (nat_lt n F.names) w.0 in
        let hs = ltb-true s (slot_count F) w.1 in
        both (λ a b. p (Part.Picks k a b s)) (picks k s hs) (picked k s hs) m n (ltb-true m F.names u.0) (ltb-true n F.names u.1)
    renamed_alike (Part.StopFlag k s f) fits = refl
    renamed_alike (Part.StopVisited k s) fits = refl

  pub one_node : (i j : ℕ) (part : Part) → i < F.names → j < F.names → part_fits F part ≡ true → lawful.agrees p i j part ≡ true
  one_node i j part bi bj fits = implied _ _ (λ same. beq_of _ _ (renamed_alike i j bi bj same part fits))
