-- Sets to which past facts are added.
use Rattle.std.specs.Prelude.{◌≡◌, ◌⊎◌, ◌↔◌, ℕ, ◌+◌, ◌*◌, ◌<◌, ◌≤◌, Bool, true, false, not, ◌&&◌, ◌||◌, List, map, length, slice_get, Some, None, Contains}
use Rattle.std.proofs.Common.{sym, ◌∙◌, ap, subst, inl, inr, arith, get_or}
use Rattle.std.proofs.lemmas.Bool.{cases_Bool, cases_eq, and_parts, and_from, true≢false}
use Rattle.std.proofs.lemmas.Option.{same_Some, slice_get-get_or, slice_get_within}
use Rattle.plank_base.specs.declared.limits.TheConstants.{MARK_WORDS_PER_LOCATION}
use Rattle.plank_prog.specs.declared.headers.Header.{Header}
use Rattle.plank_prog.specs.declared.methods.Method.{Method}
use Rattle.plank_prog.specs.declared.programs.Program.{Program}
use Rattle.plank_pic.specs.declared.literals.Literal.{Literal}
use Rattle.plank_pic.specs.Below.{some_below}
use Rattle.plank_fact.specs.declared.facts.Fact.{Fact}
use Rattle.plank_fact.specs.Tables.{IsNumbered}
use Rattle.plank_fact.specs.Outlines.{Outline}
use Rattle.plank_fact.specs.Hindsight.{may_be_now}
use Rattle.plank_claim.specs.Claims.{listed_below}
use Rattle.plank_shown.specs.Numbers.{picked, is_at}
use Rattle.plank_shown.proofs.Exact.{room}
use Rattle.plank_shown.proofs.Lists.{listed_in, in_listed, spread_old, spread_at, at_spread}
use Rattle.plank_follow.specs.Kinds.{AreOfKind}
use Rattle.plank_follow.specs.Literals.{literal_at}
use Rattle.plank_follow.specs.Following.{IsGiven, IsGivenBelow, IsFollowing, IsFollowingFrom, AddsPast}
use Rattle.plank_follow.proofs.Sorts.{one_past}
use Rattle.plank_follow.proofs.Lists.{literal_there}

module _ (h : Header) (m : Method) where
  -- none is added
  pub adds_none : (A : Literal → Type 0) (old : ℕ → Bool) → ((k : ℕ) (C : Literal) → IsNumbered h m k (Fact.Past C) → A C → ⊥) → AddsPast h m A old old
  adds_none A old none = record { kept = λ k o. o; added = λ k C is a. absurd (none k C is a); only = λ k o. inl o }

  -- the same, said of something else
  pub adds_as : (A B : Literal → Type 0) (old new : ℕ → Bool) → ((C : Literal) → A C → B C) → ((C : Literal) → B C → A C) → AddsPast h m A old new → AddsPast h m B old new
  adds_as A B old new to from g = record {
    kept = g.kept;
    added = λ k C is b. g.added k C is (from C b);
    only = λ k n. elim (g.only k n) [ inl o ↦ inl o | inr w ↦ inr (w.0, w.1, to w.0 w.2) ];
  }

  -- some, and then others
  pub adds_then : (A B D : Literal → Type 0) (old mid new : ℕ → Bool) → ((C : Literal) → A C → D C) → ((C : Literal) → B C → D C) → ((C : Literal) → D C → A C ⊎ B C)
      → AddsPast h m A old mid → AddsPast h m B mid new → AddsPast h m D old new
  adds_then A B D old mid new of_first of_second either g w = record {
    kept = λ k o. w.kept k (g.kept k o);
    added = λ k C is d. elim (either C d) [ inl a ↦ w.kept k (g.added k C is a) | inr b ↦ w.added k C is b ];
    only = λ k n. elim (w.only k n) [
      | inl i ↦ elim (g.only k i) [ inl o ↦ inl o | inr a ↦ inr (a.0, a.1, of_first a.0 a.2) ]
      | inr b ↦ inr (b.0, b.1, of_second b.0 b.2)
    ];
  }

-- ---- by one use of the rule

module _ (p : Program) (m : ℕ) (method : Method) (called : slice_get p.methods m ≡ Some method) (A : Literal → Type 0)
    (past known left : ℕ → Bool) (past_is : AreOfKind p.header method true past) (left_is : (k : ℕ) → left k ≡ (past k && not (known k)))
    (numbers : List ℕ) (numbers_are : numbers ≡ listed_below (picked left) (64 * MARK_WORDS_PER_LOCATION))
    (literals : List Literal) (literals_are : literals ≡ map (literal_at p.header p.methods m) numbers)
    (found : ℕ → Bool) (exact : (i : ℕ) (C : Literal) → slice_get literals i ≡ Some C → (found i ≡ true) ↔ A C)
    (more : ℕ → Bool) (more_is : (k : ℕ) → more k ≡ (known k || some_below (is_at numbers found k) (length numbers))) where
  literal_at_place : (i k : ℕ) → slice_get numbers i ≡ Some k → (C : Literal) → IsNumbered p.header method k (Fact.Past C) → slice_get literals i ≡ Some C
  literal_at_place i k at C is = literal_there p m method called known numbers literals literals_are i k at C is

  new_is_given : (i k : ℕ) → slice_get numbers i ≡ Some k → found i ≡ true → (C : Literal) × IsNumbered p.header method k (Fact.Past C) × A C
  new_is_given i k at f =
      let both = and_parts (past k) (not (known k)) (sym (left_is k) ∙ listed_in left (64 * MARK_WORDS_PER_LOCATION) numbers numbers_are i k at) in
      let w = (past_is k).0 both.0 in
      (w.0, w.1, (exact i w.0 (literal_at_place i k at w.0 w.1)).0 f)

  given_is_new : (k : ℕ) (C : Literal) → IsNumbered p.header method k (Fact.Past C) → A C → known k ≡ false → more k ≡ true
  given_is_new k C is a fresh =
      let small = room p m method called k (Fact.Past C) is in
      let opened : left k ≡ true = left_is k ∙ and_from (past k) (not (known k)) ((past_is k).1 (C, is)) (ap not fresh) in
      let w = in_listed left (64 * MARK_WORDS_PER_LOCATION) numbers numbers_are k small opened in
      spread_at known more found numbers more_is w.0 k w.1 small ((exact w.0 C (literal_at_place w.0 k w.1 C is)).1 a)

  pub adds_given : AddsPast p.header method A known more
  adds_given = record {
    kept = λ k o. spread_old known more found numbers more_is k o;
    added = λ k C is a. elim (cases_Bool (known k)) [ inl o ↦ spread_old known more found numbers more_is k o | inr fresh ↦ given_is_new k C is a fresh ];
    only = λ k n. elim (at_spread known more found numbers more_is k n) [ inl o ↦ inl o | inr w ↦ inr (new_is_given w.0 k w.1 w.2) ];
  }

-- ---- by one use for each present literal

module _ (O : Outline) (m : Method) (lasting presents : List Literal) (past : Literal) where
  -- a present literal that the rule does not take gives nothing
  pub unfit_gives_none : (b : Literal) (known : ℕ → Bool) → may_be_now past (Some b) ≡ false → AddsPast O.header m (IsGiven O m lasting past (Some b)) known known
  unfit_gives_none b known unfit = adds_none O.header m (IsGiven O m lasting past (Some b)) known (λ k C is w. true≢false (sym w.fits ∙ unfit))

  pub alone_first : (old new : ℕ → Bool) → AddsPast O.header m (IsGiven O m lasting past None) old new → AddsPast O.header m (IsGivenBelow O m lasting presents past 0) old new
  alone_first old new =
      adds_as O.header m (IsGiven O m lasting past None) (IsGivenBelow O m lasting presents past 0) old new (λ C a. inl a)
      (λ C w. elim w [ inl a ↦ a | inr v ↦ (let below : v.0 < 0 = v.2 in absurd (omega (arith, below))) ])

  pub one_present : (i : ℕ) (b : Literal) → slice_get presents i ≡ Some b → (old mid new : ℕ → Bool) → AddsPast O.header m (IsGivenBelow O m lasting presents past i) old mid
      → AddsPast O.header m (IsGiven O m lasting past (Some b)) mid new → AddsPast O.header m (IsGivenBelow O m lasting presents past (i + 1)) old new
  one_present i b at old mid new =
      adds_then O.header m (IsGivenBelow O m lasting presents past i) (IsGiven O m lasting past (Some b)) (IsGivenBelow O m lasting presents past (i + 1)) old mid new
      (λ C w. elim w [ inl a ↦ inl a | inr v ↦ inr (v.0, v.1, (let below : v.0 < i = v.2 in omega (arith, below)), v.3, v.4) ])
      (λ C a. inr (i, b, omega arith, at, a))
      (λ C w. elim w [ inl a ↦ inl (inl a) | inr v ↦ earlier C v.0 v.1 v.2 v.3 v.4 ])
    where
      earlier : (C : Literal) (j : ℕ) (c : Literal) → j < i + 1 → slice_get presents j ≡ Some c → IsGiven O m lasting past (Some c) C → IsGivenBelow O m lasting presents past i C ⊎ IsGiven O m lasting past (Some b) C
      earlier C j c below there a = elim (cases_eq j i) [
        | inl same ↦ inr (subst (λ d. IsGiven O m lasting past (Some d) C) (same_Some c b (sym there ∙ ap (slice_get presents) same ∙ at)) a)
        | inr other ↦ inl (inr (j, c, omega (arith, below, other), there, a))
      ]

  pub all_presents : (count : ℕ) → length presents ≤ count → (old new : ℕ → Bool) → AddsPast O.header m (IsGivenBelow O m lasting presents past count) old new
      → AddsPast O.header m (IsFollowing O m lasting presents past) old new
  all_presents count most old new =
      adds_as O.header m (IsGivenBelow O m lasting presents past count) (IsFollowing O m lasting presents past) old new
      (λ C w. elim w [ inl a ↦ inl a | inr v ↦ inr (v.1, at_contains v.0 v.1 v.3, v.4) ])
      (λ C w. elim w [ inl a ↦ inl a | inr v ↦ (let u = v.1 in inr (u.0, v.0, (let within : u.0 < length presents = u.1 in omega (arith, within, most)), slice_get-get_or presents u.0 v.0 u.1 ∙ ap Some u.2, v.2)) ])
    where
      at_contains : (i : ℕ) (b : Literal) → slice_get presents i ≡ Some b → Contains presents b
      at_contains i b at = let within = slice_get_within presents i b at in (i, within, same_Some (get_or presents i b) b (sym (slice_get-get_or presents i b within) ∙ at))

  -- from the past fact of a number
  pub from_number : (n : ℕ) → IsNumbered O.header m n (Fact.Past past) → (old new : ℕ → Bool) → AddsPast O.header m (IsFollowing O m lasting presents past) old new
      → AddsPast O.header m (IsFollowingFrom O m lasting presents n) old new
  from_number n is old new =
      adds_as O.header m (IsFollowing O m lasting presents past) (IsFollowingFrom O m lasting presents n) old new (λ C w. (past, is, w))
      (λ C w. subst (λ P. IsFollowing O m lasting presents P C) (one_past O.header m n w.0 past w.1 is) w.2)

pub from_none : (O : Outline) (m : Method) (lasting presents : List Literal) (n : ℕ) → ((P : Literal) → IsNumbered O.header m n (Fact.Past P) → ⊥) → (known : ℕ → Bool)
    → AddsPast O.header m (IsFollowingFrom O m lasting presents n) known known
from_none O m lasting presents n none known = adds_none O.header m (IsFollowingFrom O m lasting presents n) known (λ k C is w. none w.0 w.1)
