-- Orders: closed facts have an order, and one in which a fact that is not known fails; one more assumption leaves them closed.
use Rattle.std.proofs.Common.{◌≡◌, ◌⊎◌, ◌↔◌, ℕ, ◌+◌, ◌<◌, ◌≤◌, ◌==◌, ◌&&◌, ◌||◌, Bool, true, false, List, length, refl, sym, ◌∙◌, ap, subst, inl, inr, arith}
use Rattle.std.proofs.lemmas.Bool.{cases_lt, eqb-true, eq-eqb, false≢true, false_from_ne_true, or_left, OnTrue_from, OnFalse_from}
use Rattle.std.specs.Bool.{OnTrue, OnFalse}
use Rattle.plank_order.specs.Rows.{relates}
use Rattle.plank_order.specs.Orders.{OrderFacts, Meets, AreClosed, HasOneOrder, HasTwoOrders}
use Rattle.plank_order.proofs.RowLemmas.{join_cases, join_right, count_below, count_below-le, count_below-within, count_below-grows, relates-past}

-- a rank with a whole part moved up: the part's numbers that are in a part of it get one rank, and the others a higher one
place : Bool → Bool → ℕ → ℕ
place false q n = n
place true true n = 25
place true false n = 26 + n

place-le : (p q : Bool) (n : ℕ) (r s : Bool) (m : ℕ) → n ≤ 24 → n ≤ m → (p ≡ true → r ≡ true) → (p ≡ true → s ≡ true → q ≡ true) → place p q n ≤ place r s m
unfolding place
place-le false q n false s m few le up back = le
place-le false q n true true m few le up back = omega arith
place-le false q n true false m few le up back = omega arith
place-le true q n false s m few le up back = absurd (false≢true (up refl))
place-le true true n true true m few le up back = omega arith
place-le true true n true false m few le up back = omega arith
place-le true false n true true m few le up back = absurd (false≢true (back refl refl))
place-le true false n true false m few le up back = omega arith

place-lt : (p q : Bool) (n : ℕ) (r s : Bool) (m : ℕ) → n ≤ 24 → n < m → (p ≡ true → r ≡ true) → (p ≡ true → s ≡ true → ⊥) → place p q n < place r s m
unfolding place
place-lt false q n false s m few lt up back = lt
place-lt false q n true true m few lt up back = omega arith
place-lt false q n true false m few lt up back = omega arith
place-lt true q n false s m few lt up back = absurd (false≢true (up refl))
place-lt true q n true true m few lt up back = absurd (back refl refl)
place-lt true true n true false m few lt up back = omega arith
place-lt true false n true false m few lt up back = omega arith

place-under : (p q : Bool) (n m : ℕ) → n ≤ 24 → place p true n ≤ place true q m
unfolding place
place-under false true n m few = omega arith
place-under false false n m few = omega arith
place-under true true n m few = omega arith
place-under true false n m few = omega arith

place-below : (q r : Bool) (n m : ℕ) → n ≤ 24 → place false q n < place true r m
unfolding place
place-below q true n m few = omega arith
place-below q false n m few = omega arith

module _ (k : OrderFacts) (closed : AreClosed k) where
  -- how many terms are at most a
  height : ℕ → ℕ
  height a = count_below (λ c. relates k.at_most c a) 24

  height_few : (a : ℕ) → height a ≤ 24
  unfolding height
  height_few a = count_below-le (λ c. relates k.at_most c a) 24

  height_le : (a b : ℕ) → relates k.at_most a b ≡ true → height a ≤ height b
  unfolding height
  height_le a b h = count_below-within (λ c. relates k.at_most c a) (λ c. relates k.at_most c b) 24 (λ c e. closed.transitive c a b e h)

  not_back : (a b : ℕ) → relates k.less a b ≡ true → relates k.at_most b a ≡ false
  not_back a b h = false_from_ne_true (relates k.at_most b a) (λ e. closed.irreflexive a (closed.less_first a b a h e))

  height_lt : (a b : ℕ) → relates k.less a b ≡ true → height a < height b
  unfolding height
  height_lt a b h =
      let weak = closed.weaker a b h in
      let small = closed.within a b weak in
      count_below-grows (λ c. relates k.at_most c a) (λ c. relates k.at_most c b) 24 b (λ c e. closed.transitive c a b e weak) small (not_back a b h) (closed.reflexive b small)

  -- closed facts have an order
  pub order : (rank : ℕ → ℕ) × Meets k rank
  order = (height, record { at_most = height_le; less = height_lt })

  -- where a is not known to be less than b, there is an order in which b is at most a, and less than a unless a is known to be at most b
  module _ (a b : ℕ) (unknown : relates k.less a b ≡ false) where
    lifted : ℕ → ℕ
    lifted x = place (relates k.at_most a x) (relates k.at_most x b) (height x)

    lifted_meets : Meets k lifted
    unfolding lifted
    lifted_meets = record {
      at_most = λ x y h. place-le (relates k.at_most a x) (relates k.at_most x b) (height x) (relates k.at_most a y) (relates k.at_most y b) (height y)
          (height_few x) (height_le x y h) (λ e. closed.transitive a x y e h) (λ e f. closed.transitive x y b h f);
      less = λ x y h. place-lt (relates k.at_most a x) (relates k.at_most x b) (height x) (relates k.at_most a y) (relates k.at_most y b) (height y)
          (height_few x) (height_lt x y h) (λ e. closed.transitive a x y e (closed.weaker x y h))
          (λ e f. false≢true (sym unknown ∙ closed.less_first a y b (closed.less_last a x y e h) f));
    }

    lifted_back : a < 24 → b < 24 → lifted b ≤ lifted a
    unfolding lifted
    lifted_back p q =
        let one = closed.reflexive a p in
        let other = closed.reflexive b q in
        subst (λ v. place (relates k.at_most a b) v (height b) ≤ place (relates k.at_most a a) (relates k.at_most a b) (height a)) (sym other)
        (subst (λ v. place (relates k.at_most a b) true (height b) ≤ place v (relates k.at_most a b) (height a)) (sym one)
        (place-under (relates k.at_most a b) (relates k.at_most a b) (height b) (height a) (height_few b)))

    lifted_under : a < 24 → relates k.at_most a b ≡ false → lifted b < lifted a
    unfolding lifted
    lifted_under p h =
        let one = closed.reflexive a p in
        subst (λ v. place v (relates k.at_most b b) (height b) < place (relates k.at_most a a) (relates k.at_most a b) (height a)) (sym h)
        (subst (λ v. place false (relates k.at_most b b) (height b) < place v (relates k.at_most a b) (height a)) (sym one)
        (place-below (relates k.at_most b b) (relates k.at_most a b) (height b) (height a) (height_few b)))

  pub order_without_less : (a b : ℕ) → a < 24 → b < 24 → relates k.less a b ≡ false → (rank : ℕ → ℕ) × Meets k rank × (rank b ≤ rank a)
  order_without_less a b p q h = (lifted a b h, lifted_meets a b h, lifted_back a b h p q)

  not_less : (a b : ℕ) → relates k.at_most a b ≡ false → relates k.less a b ≡ false
  not_less a b h = false_from_ne_true (relates k.less a b) (λ e. false≢true (sym h ∙ closed.weaker a b e))

  pub order_without_at_most : (a b : ℕ) → a < 24 → relates k.at_most a b ≡ false → (rank : ℕ → ℕ) × Meets k rank × (rank b < rank a)
  order_without_at_most a b p h =
      (lifted a b (not_less a b h), lifted_meets a b (not_less a b h), lifted_under a b (not_less a b h) p h)

  -- one order, where any two terms are placed
  pub one_order : ((a : ℕ) → a < k.terms → (b : ℕ) → b < k.terms → (relates k.at_most a b ≡ true) ⊎ (relates k.less b a ≡ true)) → HasOneOrder k
  one_order placed = (
    height,
    record { at_most = height_le; less = height_lt },
    λ other meets a b p q.
        elim (placed a p b q) [
          | inl e ↦ (λ _. meets.at_most a b e, λ _. height_le a b e)
          | inr e ↦
              let down : height b < height a = height_lt b a e in
              let apart : other b < other a = meets.less b a e in
              (λ h. absurd (omega arith), λ h. absurd (omega arith))
        ],
  )

  -- two orders, where some two are not
  pub two_orders : (a b : ℕ) → a < k.terms → b < k.terms → relates k.at_most a b ≡ false → relates k.less b a ≡ false → HasTwoOrders k
  two_orders a b p q e f =
      let few = closed.few in
      let down = order_without_at_most a b (omega arith) e in
      let up = order_without_less b a (omega arith) (omega arith) f in (
        down.0,
        up.0,
        down.1,
        up.1,
        λ same.
            let back : down.0 a ≤ down.0 b = (same a b p q).1 up.2 in
            let under : down.0 b < down.0 a = down.2 in
            omega arith,
      )

-- ---- what is answered of two terms

pub record IsLess (k : OrderFacts) (a b : ℕ) (r : Bool) : Type 0 where
  pub every : OnTrue r ((rank : ℕ → ℕ) → Meets k rank → rank a < rank b)
  pub fails : OnFalse r ((rank : ℕ → ℕ) × Meets k rank × (rank b ≤ rank a))

pub record IsAtMost (k : OrderFacts) (a b : ℕ) (r : Bool) : Type 0 where
  pub every : OnTrue r ((rank : ℕ → ℕ) → Meets k rank → rank a ≤ rank b)
  pub fails : OnFalse r ((rank : ℕ → ℕ) × Meets k rank × (rank b < rank a))

pub less_answer : (k : OrderFacts) → AreClosed k → (a b : ℕ) (r : Bool) → r ≡ relates k.less a b → a < k.terms → b < k.terms → IsLess k a b r
less_answer k closed a b r e p q =
    let few = closed.few in
    record {
      every = OnTrue_from r ((rank : ℕ → ℕ) → Meets k rank → rank a < rank b) (λ t rank m. m.less a b (sym e ∙ t));
      fails = OnFalse_from r ((rank : ℕ → ℕ) × Meets k rank × (rank b ≤ rank a)) (λ f. order_without_less k closed a b (omega arith) (omega arith) (sym e ∙ f));
    }

pub at_most_answer : (k : OrderFacts) → AreClosed k → (a b : ℕ) (r : Bool) → r ≡ relates k.at_most a b → a < k.terms → IsAtMost k a b r
at_most_answer k closed a b r e p =
    let few = closed.few in
    record {
      every = OnTrue_from r ((rank : ℕ → ℕ) → Meets k rank → rank a ≤ rank b) (λ t rank m. m.at_most a b (sym e ∙ t));
      fails = OnFalse_from r ((rank : ℕ → ℕ) × Meets k rank × (rank b < rank a)) (λ f. order_without_at_most k closed a b (omega arith) (sym e ∙ f));
    }

pub term_small : (k now : OrderFacts) → k ≡ now → AreClosed k → (a : ℕ) → a < now.terms → a < 24
term_small k now e closed a h =
    let few = closed.few in
    let same : k.terms ≡ now.terms = ap (λ v. v.terms) e in
    omega arith

-- ---- nothing is known

pub closed_diagonal : (k : OrderFacts) → k.terms ≤ 24 → length k.at_most ≡ 24 → ((x y : ℕ) → x < length k.at_most → relates k.at_most x y ≡ (x == y)) → ((x y : ℕ) → relates k.less x y ≡ false) → AreClosed k
closed_diagonal k few size diagonal none =
    record {
      few = few;
      within = λ x y h.
          let e : x ≡ y = same x y h in
          let l : x < 24 = small x y h in
          omega arith;
      reflexive = λ x h. diagonal x x (omega arith) ∙ eq-eqb x x refl;
      transitive = λ x y z h l. subst (λ v. relates k.at_most x v ≡ true) (same y z l) h;
      weaker = λ x y h. absurd (never x y h);
      less_first = λ x y z h l. absurd (never x y h);
      less_last = λ x y z h l. absurd (never y z l);
      irreflexive = λ x h. never x x h;
    }
  where
    never : (x y : ℕ) → relates k.less x y ≡ true → ⊥
    never x y h = false≢true (sym (none x y) ∙ h)

    small : (x y : ℕ) → relates k.at_most x y ≡ true → x < 24
    small x y h = elim (cases_lt x (length k.at_most)) [
      | inl l ↦ omega arith
      | inr l ↦ absurd (false≢true (sym (relates-past k.at_most x y l) ∙ h))
    ]

    same : (x y : ℕ) → relates k.at_most x y ≡ true → x ≡ y
    same x y h =
        let l : x < length k.at_most = let s = small x y h in omega arith in
        eqb-true x y (sym (diagonal x y l) ∙ h)

-- ---- one more assumption

-- the at-most facts with a at most b as well
module _ (k : OrderFacts) (closed : AreClosed k) (rows : List ℕ) (a b : ℕ)
    (rows_are : (x y : ℕ) → relates rows x y ≡ (relates k.at_most x y || (relates k.at_most x a && relates k.at_most b y))) where
  at_most_cases : (x y : ℕ) → relates rows x y ≡ true → (relates k.at_most x y ≡ true) ⊎ ((relates k.at_most x a ≡ true) × (relates k.at_most b y ≡ true))
  at_most_cases x y h = join_cases (relates k.at_most x y) (relates k.at_most x a) (relates k.at_most b y) (sym (rows_are x y) ∙ h)

  at_most_kept : (x y : ℕ) → relates k.at_most x y ≡ true → relates rows x y ≡ true
  at_most_kept x y h = rows_are x y ∙ or_left (relates k.at_most x y) (relates k.at_most x a && relates k.at_most b y) h

  at_most_through : (x y : ℕ) → relates k.at_most x a ≡ true → relates k.at_most b y ≡ true → relates rows x y ≡ true
  at_most_through x y e f = rows_are x y ∙ join_right (relates k.at_most x y) (relates k.at_most x a) (relates k.at_most b y) e f

  at_most_within : (x y : ℕ) → relates rows x y ≡ true → y < 24
  at_most_within x y h = elim (at_most_cases x y h) [ inl e ↦ closed.within x y e | inr w ↦ closed.within b y w.1 ]

  at_most_transitive : (x y z : ℕ) → relates rows x y ≡ true → relates rows y z ≡ true → relates rows x z ≡ true
  at_most_transitive x y z h l =
      elim (at_most_cases x y h) [
        | inl e ↦ elim (at_most_cases y z l) [
          | inl f ↦ at_most_kept x z (closed.transitive x y z e f)
          | inr w ↦ at_most_through x z (closed.transitive x y a e w.0) w.1
        ]
        | inr v ↦ elim (at_most_cases y z l) [
          | inl f ↦ at_most_through x z v.0 (closed.transitive b y z v.1 f)
          | inr w ↦ at_most_through x z v.0 w.1
        ]
      ]

  at_most_holds : (rank : ℕ → ℕ) → Meets k rank → rank a ≤ rank b → (x y : ℕ) → relates rows x y ≡ true → rank x ≤ rank y
  at_most_holds rank m le x y h =
      elim (at_most_cases x y h) [
        | inl e ↦ m.at_most x y e
        | inr w ↦
            let front : rank x ≤ rank a = m.at_most x a w.0 in
            let back : rank b ≤ rank y = m.at_most b y w.1 in
            omega arith
      ]

-- a is less than b as well
module _ (k n : OrderFacts) (closed : AreClosed k) (a b : ℕ) (first : a < 24) (second : b < 24)
    (terms : n.terms ≤ 24)
    (free : relates k.at_most b a ≡ false)
    (at_most_is : (x y : ℕ) → relates n.at_most x y ≡ (relates k.at_most x y || (relates k.at_most x a && relates k.at_most b y)))
    (less_is : (x y : ℕ) → relates n.less x y ≡ (relates k.less x y || (relates k.at_most x a && relates k.at_most b y))) where
  less_cases : (x y : ℕ) → relates n.less x y ≡ true → (relates k.less x y ≡ true) ⊎ ((relates k.at_most x a ≡ true) × (relates k.at_most b y ≡ true))
  less_cases x y h = join_cases (relates k.less x y) (relates k.at_most x a) (relates k.at_most b y) (sym (less_is x y) ∙ h)

  less_kept : (x y : ℕ) → relates k.less x y ≡ true → relates n.less x y ≡ true
  less_kept x y h = less_is x y ∙ or_left (relates k.less x y) (relates k.at_most x a && relates k.at_most b y) h

  less_through : (x y : ℕ) → relates k.at_most x a ≡ true → relates k.at_most b y ≡ true → relates n.less x y ≡ true
  less_through x y e f = less_is x y ∙ join_right (relates k.less x y) (relates k.at_most x a) (relates k.at_most b y) e f

  clash : (x : ℕ) → relates k.at_most b x ≡ true → relates k.at_most x a ≡ true → ⊥
  clash x e f = false≢true (sym free ∙ closed.transitive b x a e f)

  pub closed_with_less : AreClosed n
  closed_with_less = record {
    few = terms;
    within = at_most_within k closed n.at_most a b at_most_is;
    reflexive = λ x h. at_most_kept k closed n.at_most a b at_most_is x x (closed.reflexive x h);
    transitive = at_most_transitive k closed n.at_most a b at_most_is;
    weaker = λ x y h. elim (less_cases x y h) [
      | inl e ↦ at_most_kept k closed n.at_most a b at_most_is x y (closed.weaker x y e)
      | inr w ↦ at_most_through k closed n.at_most a b at_most_is x y w.0 w.1
    ];
    less_first = λ x y z h l. elim (less_cases x y h) [
      | inl e ↦ elim (at_most_cases k closed n.at_most a b at_most_is y z l) [
        | inl f ↦ less_kept x z (closed.less_first x y z e f)
        | inr w ↦ less_through x z (closed.transitive x y a (closed.weaker x y e) w.0) w.1
      ]
      | inr v ↦ elim (at_most_cases k closed n.at_most a b at_most_is y z l) [
        | inl f ↦ less_through x z v.0 (closed.transitive b y z v.1 f)
        | inr w ↦ less_through x z v.0 w.1
      ]
    ];
    less_last = λ x y z h l. elim (at_most_cases k closed n.at_most a b at_most_is x y h) [
      | inl e ↦ elim (less_cases y z l) [
        | inl f ↦ less_kept x z (closed.less_last x y z e f)
        | inr w ↦ less_through x z (closed.transitive x y a e w.0) w.1
      ]
      | inr v ↦ elim (less_cases y z l) [
        | inl f ↦ less_through x z v.0 (closed.transitive b y z v.1 (closed.weaker y z f))
        | inr w ↦ less_through x z v.0 w.1
      ]
    ];
    irreflexive = λ x h. elim (less_cases x x h) [ inl e ↦ closed.irreflexive x e | inr w ↦ clash x w.1 w.0 ];
  }

  pub meets_with_less : (rank : ℕ → ℕ) → Meets n rank ↔ (Meets k rank × (rank a < rank b))
  meets_with_less rank = (
    λ m. (
      record {
        at_most = λ x y h. m.at_most x y (at_most_kept k closed n.at_most a b at_most_is x y h);
        less = λ x y h. m.less x y (less_kept x y h);
      },
      m.less a b (less_through a b (closed.reflexive a first) (closed.reflexive b second)),
    ),
    λ w. let lt : rank a < rank b = w.1 in record {
      at_most = at_most_holds k closed n.at_most a b at_most_is rank w.0 (omega arith);
      less = λ x y h. elim (less_cases x y h) [
        | inl e ↦ w.0.less x y e
        | inr v ↦
            let front : rank x ≤ rank a = w.0.at_most x a v.0 in
            let back : rank b ≤ rank y = w.0.at_most b y v.1 in
            omega arith
      ];
    },
  )

-- a is at most b as well
module _ (k n : OrderFacts) (closed : AreClosed k) (a b : ℕ) (first : a < 24) (second : b < 24)
    (terms : n.terms ≤ 24)
    (free : relates k.less b a ≡ false)
    (at_most_is : (x y : ℕ) → relates n.at_most x y ≡ (relates k.at_most x y || (relates k.at_most x a && relates k.at_most b y)))
    (less_is : (x y : ℕ) → relates n.less x y ≡ ((relates k.less x y || (relates k.at_most x a && relates k.less b y)) || (relates k.less x a && relates k.at_most b y))) where
  strict_cases : (x y : ℕ) → relates n.less x y ≡ true
      → (relates k.less x y ≡ true) ⊎ (((relates k.at_most x a ≡ true) × (relates k.less b y ≡ true)) ⊎ ((relates k.less x a ≡ true) × (relates k.at_most b y ≡ true)))
  strict_cases x y h =
      elim (join_cases (relates k.less x y || (relates k.at_most x a && relates k.less b y)) (relates k.less x a) (relates k.at_most b y) (sym (less_is x y) ∙ h)) [
        | inl e ↦ elim (join_cases (relates k.less x y) (relates k.at_most x a) (relates k.less b y) e) [
          | inl f ↦ inl f
          | inr w ↦ inr (inl w)
        ]
        | inr w ↦ inr (inr w)
      ]

  strict_kept : (x y : ℕ) → relates k.less x y ≡ true → relates n.less x y ≡ true
  strict_kept x y h =
      less_is x y
      ∙ or_left (relates k.less x y || (relates k.at_most x a && relates k.less b y)) (relates k.less x a && relates k.at_most b y)
      (or_left (relates k.less x y) (relates k.at_most x a && relates k.less b y) h)

  strict_behind : (x y : ℕ) → relates k.at_most x a ≡ true → relates k.less b y ≡ true → relates n.less x y ≡ true
  strict_behind x y e f =
      less_is x y
      ∙ or_left (relates k.less x y || (relates k.at_most x a && relates k.less b y)) (relates k.less x a && relates k.at_most b y)
      (join_right (relates k.less x y) (relates k.at_most x a) (relates k.less b y) e f)

  strict_before : (x y : ℕ) → relates k.less x a ≡ true → relates k.at_most b y ≡ true → relates n.less x y ≡ true
  strict_before x y e f =
      less_is x y
      ∙ join_right (relates k.less x y || (relates k.at_most x a && relates k.less b y)) (relates k.less x a) (relates k.at_most b y) e f

  no_less : relates k.less b a ≡ true → ⊥
  no_less e = false≢true (sym free ∙ e)

  pub closed_with_at_most : AreClosed n
  closed_with_at_most = record {
    few = terms;
    within = at_most_within k closed n.at_most a b at_most_is;
    reflexive = λ x h. at_most_kept k closed n.at_most a b at_most_is x x (closed.reflexive x h);
    transitive = at_most_transitive k closed n.at_most a b at_most_is;
    weaker = λ x y h. elim (strict_cases x y h) [
      | inl e ↦ at_most_kept k closed n.at_most a b at_most_is x y (closed.weaker x y e)
      | inr o ↦ elim o [
        | inl w ↦ at_most_through k closed n.at_most a b at_most_is x y w.0 (closed.weaker b y w.1)
        | inr w ↦ at_most_through k closed n.at_most a b at_most_is x y (closed.weaker x a w.0) w.1
      ]
    ];
    less_first = λ x y z h l. elim (at_most_cases k closed n.at_most a b at_most_is y z l) [
      | inl f ↦ elim (strict_cases x y h) [
        | inl e ↦ strict_kept x z (closed.less_first x y z e f)
        | inr o ↦ elim o [
          | inl v ↦ strict_behind x z v.0 (closed.less_first b y z v.1 f)
          | inr v ↦ strict_before x z v.0 (closed.transitive b y z v.1 f)
        ]
      ]
      | inr w ↦ elim (strict_cases x y h) [
        | inl e ↦ strict_before x z (closed.less_first x y a e w.0) w.1
        | inr o ↦ elim o [
          | inl v ↦ absurd (no_less (closed.less_first b y a v.1 w.0))
          | inr v ↦ strict_before x z v.0 w.1
        ]
      ]
    ];
    less_last = λ x y z h l. elim (at_most_cases k closed n.at_most a b at_most_is x y h) [
      | inl e ↦ elim (strict_cases y z l) [
        | inl f ↦ strict_kept x z (closed.less_last x y z e f)
        | inr o ↦ elim o [
          | inl w ↦ strict_behind x z (closed.transitive x y a e w.0) w.1
          | inr w ↦ strict_before x z (closed.less_last x y a e w.0) w.1
        ]
      ]
      | inr v ↦ elim (strict_cases y z l) [
        | inl f ↦ strict_behind x z v.0 (closed.less_last b y z v.1 f)
        | inr o ↦ elim o [
          | inl w ↦ strict_behind x z v.0 w.1
          | inr w ↦ absurd (no_less (closed.less_last b y a v.1 w.0))
        ]
      ]
    ];
    irreflexive = λ x h. elim (strict_cases x x h) [
      | inl e ↦ closed.irreflexive x e
      | inr o ↦ elim o [
        | inl w ↦ no_less (closed.less_first b x a w.1 w.0)
        | inr w ↦ no_less (closed.less_last b x a w.1 w.0)
      ]
    ];
  }

  pub meets_with_at_most : (rank : ℕ → ℕ) → Meets n rank ↔ (Meets k rank × (rank a ≤ rank b))
  meets_with_at_most rank = (
    λ m. (
      record {
        at_most = λ x y h. m.at_most x y (at_most_kept k closed n.at_most a b at_most_is x y h);
        less = λ x y h. m.less x y (strict_kept x y h);
      },
      m.at_most a b (at_most_through k closed n.at_most a b at_most_is a b (closed.reflexive a first) (closed.reflexive b second)),
    ),
    λ w. let le : rank a ≤ rank b = w.1 in record {
      at_most = at_most_holds k closed n.at_most a b at_most_is rank w.0 le;
      less = λ x y h. elim (strict_cases x y h) [
        | inl e ↦ w.0.less x y e
        | inr o ↦ elim o [
          | inl v ↦
              let front : rank x ≤ rank a = w.0.at_most x a v.0 in
              let back : rank b < rank y = w.0.less b y v.1 in
              omega arith
          | inr v ↦
              let front : rank x < rank a = w.0.less x a v.0 in
              let back : rank b ≤ rank y = w.0.at_most b y v.1 in
              omega arith
        ]
      ];
    },
  )
