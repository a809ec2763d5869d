-- Partitions: closed facts have a partition, and one in which a fact that is not known fails; one more assumption leaves them closed.
use Rattle.std.proofs.Common.{◌≡◌, ◌≢◌, ◌⊎◌, ◌↔◌, ℕ, ◌<◌, ◌≤◌, ◌==◌, ◌&&◌, ◌||◌, cond, Bool, true, false, List, length, slice_index, refl, sym, ◌∙◌, ap, subst, inl, inr, arith}
use Rattle.std.specs.Bool.{OnTrue, OnFalse}
use Rattle.std.proofs.lemmas.Bool.{cases_eq, cases_lt, eqb-true, eq-eqb, false≢true, or_cases, or_left, or_right, cond-true, cond-false, ne_eqb, OnTrue_from, OnFalse_from}
use Rattle.plank_order.specs.Rows.{is_set, relates}
use Rattle.plank_order.specs.Partitions.{PartitionFacts, Meets, AreClosed}
use Rattle.plank_order.proofs.RowLemmas.{join_cases, join_right, relates-past, same_row}

module _ (k : PartitionFacts) (closed : AreClosed k) where
  -- the group of a name is its row
  row : ℕ → ℕ
  row a = slice_index k.same a

  row_same : (a b : ℕ) → relates k.same a b ≡ true → row a ≡ row b
  unfolding row
  row_same a b h =
      same_row (slice_index k.same a) (slice_index k.same b) (λ c e. closed.transitive b a c (closed.symmetric a b h) e) (λ c e. closed.transitive a b c h e)

  same_from_row : (a b : ℕ) → relates k.same b b ≡ true → row a ≡ row b → relates k.same a b ≡ true
  unfolding row
  same_from_row a b h e = ap (λ r. is_set r b) e ∙ h

  row_apart : (a b : ℕ) → relates k.apart a b ≡ true → row a ≢ row b
  row_apart a b h e =
      closed.irreflexive a (closed.apart_same a b a h (closed.symmetric a b (same_from_row a b (closed.named a b h) e)))

  -- closed facts have a partition
  pub partition : (group : ℕ → ℕ) × Meets k group
  partition = (row, record { same = row_same; apart = row_apart })

  -- names that are not known to be the same are apart in it
  pub partition_without_same : (a b : ℕ) → b < 16 → relates k.same a b ≡ false → (group : ℕ → ℕ) × Meets k group × (group a ≢ group b)
  partition_without_same a b p h =
      (row, record { same = row_same; apart = row_apart }, λ e. false≢true (sym h ∙ same_from_row a b (closed.reflexive b p) e))

  -- names that are not known to be apart may be in one group
  module _ (a b : ℕ) (first : a < 16) (second : b < 16) (unknown : relates k.apart a b ≡ false) where
    joined : ℕ → ℕ
    joined x = cond (row x == row a) (row b) (row x)

    joined_in : (x : ℕ) → row x ≡ row a → joined x ≡ row b
    unfolding joined
    joined_in x e = cond-true (row x == row a) (row b) (row x) (eq-eqb (row x) (row a) e)

    joined_out : (x : ℕ) → (row x ≡ row a → ⊥) → joined x ≡ row x
    unfolding joined
    joined_out x d = cond-false (row x == row a) (row b) (row x) (ne_eqb (row x) (row a) d)

    joined_same : (x y : ℕ) → relates k.same x y ≡ true → joined x ≡ joined y
    unfolding joined
    joined_same x y h = ap (λ g. cond (g == row a) (row b) g) (row_same x y h)

    -- x in the group of a and y in that of b are not known to be apart
    not_across : (x y : ℕ) → row x ≡ row a → row b ≡ row y → relates k.apart x y ≡ true → ⊥
    not_across x y e f h =
        let front : relates k.same x a ≡ true = same_from_row x a (closed.reflexive a first) e in
        let back : relates k.same y b ≡ true = same_from_row y b (closed.reflexive b second) (sym f) in
        let far : relates k.apart x b ≡ true = closed.apart_same x y b h back in
        let near : relates k.apart b a ≡ true = closed.apart_same b x a (closed.apart_symmetric x b far) front in
        false≢true (sym unknown ∙ closed.apart_symmetric b a near)

    joined_apart : (x y : ℕ) → relates k.apart x y ≡ true → joined x ≢ joined y
    joined_apart x y h e =
        elim (cases_eq (row x) (row a)) [
          | inl s ↦ elim (cases_eq (row y) (row a)) [
            | inl t ↦ row_apart x y h (s ∙ sym t)
            | inr t ↦ not_across x y s (sym (joined_in x s) ∙ e ∙ joined_out y t) h
          ]
          | inr s ↦ elim (cases_eq (row y) (row a)) [
            | inl t ↦ not_across y x t (sym (joined_in y t) ∙ sym e ∙ joined_out x s) (closed.apart_symmetric x y h)
            | inr t ↦ row_apart x y h (sym (joined_out x s) ∙ e ∙ joined_out y t)
          ]
        ]

    joined_one : joined a ≡ joined b
    joined_one =
        elim (cases_eq (row b) (row a)) [
          | inl e ↦ joined_in a refl ∙ sym (joined_in b e)
          | inr d ↦ joined_in a refl ∙ sym (joined_out b d)
        ]

  pub partition_without_apart : (a b : ℕ) → a < 16 → b < 16 → relates k.apart a b ≡ false → (group : ℕ → ℕ) × Meets k group × (group a ≡ group b)
  partition_without_apart a b p q h =
      (joined a b p q h, record { same = joined_same a b p q h; apart = joined_apart a b p q h }, joined_one a b p q h)

-- ---- what is answered of two names

pub record AreSame (k : PartitionFacts) (a b : ℕ) (r : Bool) : Type 0 where
  pub every : OnTrue r ((group : ℕ → ℕ) → Meets k group → group a ≡ group b)
  pub fails : OnFalse r ((group : ℕ → ℕ) × Meets k group × (group a ≢ group b))

pub record AreApart (k : PartitionFacts) (a b : ℕ) (r : Bool) : Type 0 where
  pub every : OnTrue r ((group : ℕ → ℕ) → Meets k group → group a ≢ group b)
  pub fails : OnFalse r ((group : ℕ → ℕ) × Meets k group × (group a ≡ group b))

pub same_answer : (k : PartitionFacts) → AreClosed k → (a b : ℕ) (r : Bool) → r ≡ relates k.same a b → b < k.names → AreSame k a b r
same_answer k closed a b r e q =
    let few = closed.few in
    record {
      every = OnTrue_from r ((group : ℕ → ℕ) → Meets k group → group a ≡ group b) (λ t group m. m.same a b (sym e ∙ t));
      fails = OnFalse_from r ((group : ℕ → ℕ) × Meets k group × (group a ≢ group b)) (λ f. partition_without_same k closed a b (omega arith) (sym e ∙ f));
    }

pub apart_answer : (k : PartitionFacts) → AreClosed k → (a b : ℕ) (r : Bool) → r ≡ relates k.apart a b → a < k.names → b < k.names → AreApart k a b r
apart_answer k closed a b r e p q =
    let few = closed.few in
    record {
      every = OnTrue_from r ((group : ℕ → ℕ) → Meets k group → group a ≢ group b) (λ t group m. m.apart a b (sym e ∙ t));
      fails = OnFalse_from r ((group : ℕ → ℕ) × Meets k group × (group a ≡ group b)) (λ f. partition_without_apart k closed a b (omega arith) (omega arith) (sym e ∙ f));
    }

pub name_small : (k now : PartitionFacts) → k ≡ now → AreClosed k → (a : ℕ) → a < now.names → a < 16
name_small k now e closed a h =
    let few = closed.few in
    let same : k.names ≡ now.names = ap (λ v. v.names) e in
    omega arith

-- ---- nothing is known

pub closed_diagonal : (k : PartitionFacts) → k.names ≤ 16 → length k.same ≡ 16 → ((x y : ℕ) → x < length k.same → relates k.same x y ≡ (x == y)) → ((x y : ℕ) → relates k.apart x y ≡ false) → AreClosed k
closed_diagonal k few size diagonal none =
    record {
      few = few;
      reflexive = λ x h. diagonal x x (omega arith) ∙ eq-eqb x x refl;
      symmetric = λ x y h. let e : x ≡ y = one x y h in subst (λ v. relates k.same v x ≡ true) e (subst (λ v. relates k.same x v ≡ true) (sym e) h);
      transitive = λ x y z h l. subst (λ v. relates k.same x v ≡ true) (one y z l) h;
      apart_symmetric = λ x y h. absurd (never x y h);
      apart_same = λ x y z h l. absurd (never x y h);
      named = λ x y h. absurd (never x y h);
      irreflexive = λ x h. never x x h;
    }
  where
    never : (x y : ℕ) → relates k.apart x y ≡ true → ⊥
    never x y h = false≢true (sym (none x y) ∙ h)

    one : (x y : ℕ) → relates k.same x y ≡ true → x ≡ y
    one x y h = elim (cases_lt x (length k.same)) [
      | inl l ↦ eqb-true x y (sym (diagonal x y l) ∙ h)
      | inr l ↦ absurd (false≢true (sym (relates-past k.same x y l) ∙ h))
    ]

-- ---- one more assumption

join_left : (p q r : Bool) → p ≡ true → (p || (q && r)) ≡ true
join_left p q r e = or_left p (q && r) e

-- a and b are the same as well; members are the names of their groups, and others the names apart from one of them
module _ (k n : PartitionFacts) (closed : AreClosed k) (a b : ℕ) (first : a < 16) (second : b < 16)
    (names : n.names ≤ 16)
    (free : relates k.apart a b ≡ false)
    (members others : ℕ)
    (members_are : (y : ℕ) → is_set members y ≡ (relates k.same a y || relates k.same b y))
    (others_are : (y : ℕ) → is_set others y ≡ (relates k.apart a y || relates k.apart b y))
    (same_is : (x y : ℕ) → relates n.same x y ≡ ((relates k.same x y || (relates k.same x a && is_set members y)) || (relates k.same x b && is_set members y)))
    (apart_is : (x y : ℕ) → relates n.apart x y ≡ ((((relates k.apart x y || (relates k.same x a && is_set others y)) || (relates k.same x b && is_set others y)) || (relates k.apart x a && is_set members y)) || (relates k.apart x b && is_set members y))) where
  IsIn : ℕ → Type 0
  IsIn x = (relates k.same x a ≡ true) ⊎ (relates k.same x b ≡ true)

  IsOff : ℕ → Type 0
  IsOff x = (relates k.apart x a ≡ true) ⊎ (relates k.apart x b ≡ true)

  in_from_member : (y : ℕ) → is_set members y ≡ true → IsIn y
  unfolding IsIn
  in_from_member y h =
      elim (or_cases (relates k.same a y) (relates k.same b y) (sym (members_are y) ∙ h)) [
        | inl e ↦ inl (closed.symmetric a y e)
        | inr e ↦ inr (closed.symmetric b y e)
      ]

  member_from_in : (y : ℕ) → IsIn y → is_set members y ≡ true
  unfolding IsIn
  member_from_in y i =
      members_are y
      ∙ elim i [
        | inl e ↦ or_left (relates k.same a y) (relates k.same b y) (closed.symmetric y a e)
        | inr e ↦ or_right (relates k.same a y) (relates k.same b y) (closed.symmetric y b e)
      ]

  off_from_other : (y : ℕ) → is_set others y ≡ true → IsOff y
  unfolding IsOff
  off_from_other y h =
      elim (or_cases (relates k.apart a y) (relates k.apart b y) (sym (others_are y) ∙ h)) [
        | inl e ↦ inl (closed.apart_symmetric a y e)
        | inr e ↦ inr (closed.apart_symmetric b y e)
      ]

  other_from_off : (y : ℕ) → IsOff y → is_set others y ≡ true
  unfolding IsOff
  other_from_off y i =
      others_are y
      ∙ elim i [
        | inl e ↦ or_left (relates k.apart a y) (relates k.apart b y) (closed.apart_symmetric y a e)
        | inr e ↦ or_right (relates k.apart a y) (relates k.apart b y) (closed.apart_symmetric y b e)
      ]

  a_is_in : IsIn a
  unfolding IsIn
  a_is_in = inl (closed.reflexive a first)

  b_is_in : IsIn b
  unfolding IsIn
  b_is_in = inr (closed.reflexive b second)

  in_along : (x y : ℕ) → relates k.same x y ≡ true → IsIn y → IsIn x
  unfolding IsIn
  in_along x y h i = elim i [ inl e ↦ inl (closed.transitive x y a h e) | inr e ↦ inr (closed.transitive x y b h e) ]

  off_along : (x y : ℕ) → IsOff x → relates k.same x y ≡ true → IsOff y
  unfolding IsOff
  off_along x y i h =
      elim i [
        | inl e ↦ inl (closed.apart_symmetric a y (closed.apart_same a x y (closed.apart_symmetric x a e) h))
        | inr e ↦ inr (closed.apart_symmetric b y (closed.apart_same b x y (closed.apart_symmetric x b e) h))
      ]

  off_from_in : (x y : ℕ) → relates k.apart x y ≡ true → IsIn y → IsOff x
  unfolding IsIn IsOff
  off_from_in x y h i =
      elim i [ inl e ↦ inl (closed.apart_same x y a h e) | inr e ↦ inr (closed.apart_same x y b h e) ]

  not_both : (x : ℕ) → IsIn x → IsOff x → ⊥
  unfolding IsIn IsOff
  not_both x i o =
      elim i [
        | inl e ↦ elim o [
          | inl f ↦ closed.irreflexive a (closed.apart_same a x a (closed.apart_symmetric x a f) e)
          | inr f ↦
              let far : relates k.apart b a ≡ true = closed.apart_same b x a (closed.apart_symmetric x b f) e in
              false≢true (sym free ∙ closed.apart_symmetric b a far)
        ]
        | inr e ↦ elim o [
          | inl f ↦ false≢true (sym free ∙ closed.apart_same a x b (closed.apart_symmetric x a f) e)
          | inr f ↦ closed.irreflexive b (closed.apart_same b x b (closed.apart_symmetric x b f) e)
        ]
      ]

  named_off : (y : ℕ) → IsOff y → relates k.same y y ≡ true
  unfolding IsOff
  named_off y o =
      elim o [
        | inl e ↦ closed.named a y (closed.apart_symmetric y a e)
        | inr e ↦ closed.named b y (closed.apart_symmetric y b e)
      ]

  same_cases : (x y : ℕ) → relates n.same x y ≡ true → (relates k.same x y ≡ true) ⊎ (IsIn x × IsIn y)
  unfolding IsIn
  same_cases x y h =
      elim (join_cases (relates k.same x y || (relates k.same x a && is_set members y)) (relates k.same x b) (is_set members y) (sym (same_is x y) ∙ h)) [
        | inl e ↦ elim (join_cases (relates k.same x y) (relates k.same x a) (is_set members y) e) [
          | inl f ↦ inl f
          | inr w ↦ inr (inl w.0, in_from_member y w.1)
        ]
        | inr w ↦ inr (inr w.0, in_from_member y w.1)
      ]

  same_kept : (x y : ℕ) → relates k.same x y ≡ true → relates n.same x y ≡ true
  same_kept x y h =
      same_is x y
      ∙ join_left (relates k.same x y || (relates k.same x a && is_set members y)) (relates k.same x b) (is_set members y)
      (join_left (relates k.same x y) (relates k.same x a) (is_set members y) h)

  same_within : (x y : ℕ) → IsIn x → IsIn y → relates n.same x y ≡ true
  unfolding IsIn
  same_within x y i j =
      same_is x y
      ∙ elim i [
        | inl e ↦
            join_left (relates k.same x y || (relates k.same x a && is_set members y)) (relates k.same x b) (is_set members y)
            (join_right (relates k.same x y) (relates k.same x a) (is_set members y) e (member_from_in y j))
        | inr e ↦
            join_right (relates k.same x y || (relates k.same x a && is_set members y)) (relates k.same x b) (is_set members y) e (member_from_in y j)
      ]

  -- the parts of the facts on names apart, as they are joined one after another
  part-1 : ℕ → ℕ → Bool
  part-1 x y = relates k.apart x y || (relates k.same x a && is_set others y)

  part-2 : ℕ → ℕ → Bool
  part-2 x y = part-1 x y || (relates k.same x b && is_set others y)

  part-3 : ℕ → ℕ → Bool
  part-3 x y = part-2 x y || (relates k.apart x a && is_set members y)

  apart_is_parts : (x y : ℕ) → relates n.apart x y ≡ (part-3 x y || (relates k.apart x b && is_set members y))
  unfolding part-1 part-2 part-3
  apart_is_parts x y = apart_is x y

  apart_cases : (x y : ℕ) → relates n.apart x y ≡ true → (relates k.apart x y ≡ true) ⊎ ((IsIn x × IsOff y) ⊎ (IsOff x × IsIn y))
  unfolding IsIn IsOff part-1 part-2 part-3
  apart_cases x y h =
      elim (join_cases (part-3 x y) (relates k.apart x b) (is_set members y) (sym (apart_is x y) ∙ h)) [
        | inl e ↦ elim (join_cases (part-2 x y) (relates k.apart x a) (is_set members y) e) [
          | inl f ↦ elim (join_cases (part-1 x y) (relates k.same x b) (is_set others y) f) [
            | inl g ↦ elim (join_cases (relates k.apart x y) (relates k.same x a) (is_set others y) g) [
              | inl old ↦ inl old
              | inr w ↦ inr (inl (inl w.0, off_from_other y w.1))
            ]
            | inr w ↦ inr (inl (inr w.0, off_from_other y w.1))
          ]
          | inr w ↦ inr (inr (inl w.0, in_from_member y w.1))
        ]
        | inr w ↦ inr (inr (inr w.0, in_from_member y w.1))
      ]

  from_part-1 : (x y : ℕ) → part-1 x y ≡ true → part-3 x y ≡ true
  unfolding part-2 part-3
  from_part-1 x y h =
      join_left (part-2 x y) (relates k.apart x a) (is_set members y) (join_left (part-1 x y) (relates k.same x b) (is_set others y) h)

  from_part-3 : (x y : ℕ) → part-3 x y ≡ true → relates n.apart x y ≡ true
  from_part-3 x y h = apart_is_parts x y ∙ join_left (part-3 x y) (relates k.apart x b) (is_set members y) h

  apart_kept : (x y : ℕ) → relates k.apart x y ≡ true → relates n.apart x y ≡ true
  unfolding part-1
  apart_kept x y h = from_part-3 x y (from_part-1 x y (join_left (relates k.apart x y) (relates k.same x a) (is_set others y) h))

  apart_out : (x y : ℕ) → IsIn x → IsOff y → relates n.apart x y ≡ true
  unfolding IsIn part-1 part-2 part-3
  apart_out x y i o =
      elim i [
        | inl e ↦ from_part-3 x y (from_part-1 x y (join_right (relates k.apart x y) (relates k.same x a) (is_set others y) e (other_from_off y o)))
        | inr e ↦
            from_part-3 x y (join_left (part-2 x y) (relates k.apart x a) (is_set members y)
            (join_right (part-1 x y) (relates k.same x b) (is_set others y) e (other_from_off y o)))
      ]

  apart_in : (x y : ℕ) → IsOff x → IsIn y → relates n.apart x y ≡ true
  unfolding IsOff part-3
  apart_in x y o i =
      elim o [
        | inl e ↦ from_part-3 x y (join_right (part-2 x y) (relates k.apart x a) (is_set members y) e (member_from_in y i))
        | inr e ↦ apart_is_parts x y ∙ join_right (part-3 x y) (relates k.apart x b) (is_set members y) e (member_from_in y i)
      ]

  pub closed_with_same : AreClosed n
  closed_with_same = record {
    few = names;
    reflexive = λ x h. same_kept x x (closed.reflexive x h);
    symmetric = λ x y h. elim (same_cases x y h) [
      | inl e ↦ same_kept y x (closed.symmetric x y e)
      | inr w ↦ same_within y x w.1 w.0
    ];
    transitive = λ x y z h l. elim (same_cases x y h) [
      | inl e ↦ elim (same_cases y z l) [
        | inl f ↦ same_kept x z (closed.transitive x y z e f)
        | inr w ↦ same_within x z (in_along x y e w.0) w.1
      ]
      | inr v ↦ elim (same_cases y z l) [
        | inl f ↦ same_within x z v.0 (in_along z y (closed.symmetric y z f) v.1)
        | inr w ↦ same_within x z v.0 w.1
      ]
    ];
    apart_symmetric = λ x y h. elim (apart_cases x y h) [
      | inl e ↦ apart_kept y x (closed.apart_symmetric x y e)
      | inr o ↦ elim o [ inl w ↦ apart_in y x w.1 w.0 | inr w ↦ apart_out y x w.1 w.0 ]
    ];
    apart_same = λ x y z h l. elim (same_cases y z l) [
      | inl f ↦ elim (apart_cases x y h) [
        | inl e ↦ apart_kept x z (closed.apart_same x y z e f)
        | inr o ↦ elim o [
          | inl w ↦ apart_out x z w.0 (off_along y z w.1 f)
          | inr w ↦ apart_in x z w.0 (in_along z y (closed.symmetric y z f) w.1)
        ]
      ]
      | inr v ↦ elim (apart_cases x y h) [
        | inl e ↦ apart_in x z (off_from_in x y e v.0) v.1
        | inr o ↦ elim o [
          | inl w ↦ absurd (not_both y v.0 w.1)
          | inr w ↦ apart_in x z w.0 v.1
        ]
      ]
    ];
    named = λ x y h. elim (apart_cases x y h) [
      | inl e ↦ same_kept y y (closed.named x y e)
      | inr o ↦ elim o [ inl w ↦ same_kept y y (named_off y w.1) | inr w ↦ same_within y y w.1 w.1 ]
    ];
    irreflexive = λ x h. elim (apart_cases x x h) [
      | inl e ↦ closed.irreflexive x e
      | inr o ↦ elim o [ inl w ↦ not_both x w.0 w.1 | inr w ↦ not_both x w.1 w.0 ]
    ];
  }

  in_group : (group : ℕ → ℕ) → Meets k group → group a ≡ group b → (x : ℕ) → IsIn x → group x ≡ group a
  unfolding IsIn
  in_group group m e x i = elim i [ inl f ↦ m.same x a f | inr f ↦ m.same x b f ∙ sym e ]

  off_group : (group : ℕ → ℕ) → Meets k group → group a ≡ group b → (x : ℕ) → IsOff x → group x ≢ group a
  unfolding IsOff
  off_group group m e x o q = elim o [ inl f ↦ m.apart x a f q | inr f ↦ m.apart x b f (q ∙ e) ]

  pub meets_with_same : (group : ℕ → ℕ) → Meets n group ↔ (Meets k group × (group a ≡ group b))
  meets_with_same group = (
    λ m. (
      record {
        same = λ x y h. m.same x y (same_kept x y h);
        apart = λ x y h. m.apart x y (apart_kept x y h);
      },
      m.same a b (same_within a b a_is_in b_is_in),
    ),
    λ w. record {
      same = λ x y h. elim (same_cases x y h) [
        | inl e ↦ w.0.same x y e
        | inr v ↦ in_group group w.0 w.1 x v.0 ∙ sym (in_group group w.0 w.1 y v.1)
      ];
      apart = λ x y h q. elim (apart_cases x y h) [
        | inl e ↦ w.0.apart x y e q
        | inr o ↦ elim o [
          | inl v ↦ off_group group w.0 w.1 y v.1 (sym q ∙ in_group group w.0 w.1 x v.0)
          | inr v ↦ off_group group w.0 w.1 x v.0 (q ∙ in_group group w.0 w.1 y v.1)
        ]
      ];
    },
  )

-- a and b are apart as well
module _ (k : PartitionFacts) (closed : AreClosed k) (a b : ℕ) (first : a < 16) (second : b < 16)
    (free : relates k.same a b ≡ false)
    (rows : List ℕ)
    (rows_are : (x y : ℕ) → relates rows x y ≡ ((relates k.apart x y || (relates k.same x a && relates k.same b y)) || (relates k.same x b && relates k.same a y))) where
  split_cases : (x y : ℕ) → relates rows x y ≡ true
      → (relates k.apart x y ≡ true) ⊎ (((relates k.same x a ≡ true) × (relates k.same b y ≡ true)) ⊎ ((relates k.same x b ≡ true) × (relates k.same a y ≡ true)))
  split_cases x y h =
      elim (join_cases (relates k.apart x y || (relates k.same x a && relates k.same b y)) (relates k.same x b) (relates k.same a y) (sym (rows_are x y) ∙ h)) [
        | inl e ↦ elim (join_cases (relates k.apart x y) (relates k.same x a) (relates k.same b y) e) [
          | inl f ↦ inl f
          | inr w ↦ inr (inl w)
        ]
        | inr w ↦ inr (inr w)
      ]

  split_kept : (x y : ℕ) → relates k.apart x y ≡ true → relates rows x y ≡ true
  split_kept x y h =
      rows_are x y
      ∙ join_left (relates k.apart x y || (relates k.same x a && relates k.same b y)) (relates k.same x b) (relates k.same a y)
      (join_left (relates k.apart x y) (relates k.same x a) (relates k.same b y) h)

  split_forth : (x y : ℕ) → relates k.same x a ≡ true → relates k.same b y ≡ true → relates rows x y ≡ true
  split_forth x y e f =
      rows_are x y
      ∙ join_left (relates k.apart x y || (relates k.same x a && relates k.same b y)) (relates k.same x b) (relates k.same a y)
      (join_right (relates k.apart x y) (relates k.same x a) (relates k.same b y) e f)

  split_back : (x y : ℕ) → relates k.same x b ≡ true → relates k.same a y ≡ true → relates rows x y ≡ true
  split_back x y e f =
      rows_are x y
      ∙ join_right (relates k.apart x y || (relates k.same x a && relates k.same b y)) (relates k.same x b) (relates k.same a y) e f

  not_same : (x : ℕ) → relates k.same x a ≡ true → relates k.same b x ≡ true → ⊥
  not_same x e f = false≢true (sym free ∙ closed.symmetric b a (closed.transitive b x a f e))

  pub closed_with_apart : AreClosed (record { names = k.names; same = k.same; apart = rows })
  closed_with_apart = record {
    few = closed.few;
    reflexive = closed.reflexive;
    symmetric = closed.symmetric;
    transitive = closed.transitive;
    apart_symmetric = λ x y h. elim (split_cases x y h) [
      | inl e ↦ split_kept y x (closed.apart_symmetric x y e)
      | inr o ↦ elim o [
        | inl w ↦ split_back y x (closed.symmetric b y w.1) (closed.symmetric x a w.0)
        | inr w ↦ split_forth y x (closed.symmetric a y w.1) (closed.symmetric x b w.0)
      ]
    ];
    apart_same = λ x y z h l. elim (split_cases x y h) [
      | inl e ↦ split_kept x z (closed.apart_same x y z e l)
      | inr o ↦ elim o [
        | inl w ↦ split_forth x z w.0 (closed.transitive b y z w.1 l)
        | inr w ↦ split_back x z w.0 (closed.transitive a y z w.1 l)
      ]
    ];
    named = λ x y h. elim (split_cases x y h) [
      | inl e ↦ closed.named x y e
      | inr o ↦ elim o [
        | inl w ↦ closed.transitive y b y (closed.symmetric b y w.1) w.1
        | inr w ↦ closed.transitive y a y (closed.symmetric a y w.1) w.1
      ]
    ];
    irreflexive = λ x h. elim (split_cases x x h) [
      | inl e ↦ closed.irreflexive x e
      | inr o ↦ elim o [
        | inl w ↦ not_same x w.0 w.1
        | inr w ↦ not_same x (closed.symmetric a x w.1) (closed.symmetric x b w.0)
      ]
    ];
  }

  pub meets_with_apart : (group : ℕ → ℕ) → Meets (record { names = k.names; same = k.same; apart = rows }) group ↔ (Meets k group × (group a ≢ group b))
  meets_with_apart group = (
    λ m. (
      record { same = m.same; apart = λ x y h. m.apart x y (split_kept x y h) },
      m.apart a b (split_forth a b (closed.reflexive a first) (closed.reflexive b second)),
    ),
    λ w. record {
      same = w.0.same;
      apart = λ x y h q. elim (split_cases x y h) [
        | inl e ↦ w.0.apart x y e q
        | inr o ↦ elim o [
          | inl v ↦ w.1 (sym (w.0.same x a v.0) ∙ q ∙ sym (w.0.same b y v.1))
          | inr v ↦ w.1 (w.0.same a y v.1 ∙ sym q ∙ w.0.same x b v.0)
        ]
      ];
    },
  )
