-- Where the order of two terms is kept; and that an order by ranks is one.
use Rattle.std.proofs.Common.{◌≡◌, ℕ, zero, suc, ◌+◌, ◌-◌, ◌*◌, ◌/◌, ◌%◌, ◌≤◌, ◌<◌, eqb, Bool, true, false, not, List, refl, sym, ◌∙◌, ap, subst, inl, inr, arith}
use Rattle.std.specs.Prelude.{◌&&◌, nat_lt, slice_index_or}
use Rattle.std.specs.List.{list_all}
use Rattle.std.proofs.lemmas.Bool.{and_from, or_left, or_right, cases_lt, lt-ltb, le-ltb, ltb-false, ne_eqb, cond-true, cond-false}
use Rattle.std.proofs.Math.Nat as nat
use Rattle.plank_pic.specs.declared.parts.Term.{Term}
use Rattle.plank_pic.specs.declared.parts.Part.{Part}
use Rattle.plank_pic.specs.Frames.{Frame}
use Rattle.plank_pic.specs.Pictures as pictures
use Rattle.plank_pic.specs.Lawful.{part_fits, term_fits, order_is_total}
use Rattle.plank_pic.proofs.EachName.{same_bits}
use Rattle.plank_lawful.specs.declared.families.KeyRule.{KeyRule}
use Rattle.plank_lawful.specs.declared.families.Family.{Family}
use Rattle.plank_lawful.specs.Asked.{follows}
use Rattle.plank_lawful.specs.Indexes.{key_at, term_at, fixed_term, fixed_count}
use Rattle.plank_lawful.specs.Rules.{order_goes_on}
use Rattle.plank_lawful.specs.Lists.{rules_by_third, rules_by_second, rules_of}
use Rattle.plank_lawful.proofs.Asked.{each_passes, all_pass}
use Rattle.plank_lawful.proofs.Places.{term_there}
use Rattle.plank_lawful.proofs.Tests.{implied, no_of}
use Rattle.plank_parts.specs.Codes.{part_code, key_digit, term_kind, term_digit}
use Rattle.plank_whole.specs.declared.wholes.Picture.{Picture}
use Rattle.plank_whole.specs.Wholes.{frame_of, shown}
use Rattle.plank_whole.specs.Judging.{meets}
use Rattle.plank_whole.specs.Ranks.{term_count, fixed_column, order_column, is_ranked, row_is_ranked, order_is_ranked}
use Rattle.plank_whole.proofs.Meeting.{all_joined, third_meets}

-- ---- terms by their numbers

at_name : (F : Frame) (n : ℕ) → n < F.names → term_at F n ≡ Term.Node n
at_name F n few = cond-true (nat_lt n F.names) (Term.Node n) (fixed_term (n - F.names)) (lt-ltb n F.names few)

past_names : (F : Frame) (n : ℕ) → F.names ≤ n → term_at F n ≡ fixed_term (n - F.names)
past_names F n many = cond-false (nat_lt n F.names) (Term.Node n) (fixed_term (n - F.names)) (le-ltb n F.names many)

at_fixed : (F : Frame) (m : ℕ) → term_at F (F.names + m) ≡ fixed_term m
at_fixed F m = past_names F (F.names + m) (omega arith) ∙ ap fixed_term (nat.add-sub_cancel_left F.names m)

-- ---- columns

abbrev column : Term → ℕ
column t = 16 * term_kind t + term_digit t

key_digit_at : (n : ℕ) → n < 3 → key_digit (key_at n) ≡ n
key_digit_at zero h = refl
key_digit_at (suc zero) h = refl
key_digit_at (suc (suc zero)) h = refl
key_digit_at (suc (suc (suc n))) h = absurd (omega arith)

after_five : (n : ℕ) → fixed_term (n + 5) ≡ Term.Stop (key_at (n % 3)) (n / 3)
after_five n =
    cond-false (eqb (n + 5) 0) _ _ (ne_eqb (n + 5) 0 (λ e. absurd (omega arith)))
    ∙ cond-false (eqb (n + 5) 1) _ _ (ne_eqb (n + 5) 1 (λ e. absurd (omega arith)))
    ∙ cond-false (nat_lt (n + 5) 5) _ _ (le-ltb (n + 5) 5 (omega arith))
    ∙ ap (λ v. Term.Stop (key_at (v % 3)) (v / 3)) (nat.add-sub_cancel n 5)

column_after_five : (n : ℕ) → fixed_column (n + 5) ≡ 21 + 2 * (n % 3) + n / 3
column_after_five n =
    cond-false (nat_lt (n + 5) 5) (16 + (n + 5)) (21 + 2 * ((n + 5 - 5) % 3) + (n + 5 - 5) / 3) (le-ltb (n + 5) 5 (omega arith))
    ∙ ap (λ v. 21 + 2 * (v % 3) + v / 3) (nat.add-sub_cancel n 5)

stop_column : (r q d : ℕ) → d ≡ r → 16 + (5 + (2 * d + q)) ≡ 21 + 2 * r + q
stop_column r q d e = omega arith

later_column : (n : ℕ) → column (fixed_term (n + 5)) ≡ fixed_column (n + 5)
later_column n =
    ap column (after_five n)
    ∙ stop_column (n % 3) (n / 3) (key_digit (key_at (n % 3))) (key_digit_at (n % 3) (nat.mod-lt n (omega arith)))
    ∙ sym (column_after_five n)

fixed_column_is : (m : ℕ) → column (fixed_term m) ≡ fixed_column m
fixed_column_is zero = refl
fixed_column_is (suc zero) = refl
fixed_column_is (suc (suc zero)) = refl
fixed_column_is (suc (suc (suc zero))) = refl
fixed_column_is (suc (suc (suc (suc zero)))) = refl
fixed_column_is (suc (suc (suc (suc (suc n))))) = subst (λ m. column (fixed_term m) ≡ fixed_column m) (omega arith) (later_column n)

node_column : (n : ℕ) → column (Term.Node n) ≡ n
node_column n = omega arith

column_few : (F : Frame) (n : ℕ) → n < F.names → column (term_at F n) ≡ order_column F n
column_few F n few = ap column (at_name F n few) ∙ node_column n ∙ sym (cond-true (nat_lt n F.names) n (fixed_column (n - F.names)) (lt-ltb n F.names few))

column_many : (F : Frame) (n : ℕ) → F.names ≤ n → column (term_at F n) ≡ order_column F n
column_many F n many =
    ap column (past_names F n many) ∙ fixed_column_is (n - F.names) ∙ sym (cond-false (nat_lt n F.names) n (fixed_column (n - F.names)) (le-ltb n F.names many))

column_is : (F : Frame) (n : ℕ) → column (term_at F n) ≡ order_column F n
column_is F n = elim (cases_lt n F.names) [ inl few ↦ column_few F n few | inr many ↦ column_many F n many ]

order_code : (k d c row column : ℕ) → 16 * k + d ≡ row → c ≡ column → ((9 + k) * 16 + d) * 32 + c ≡ 4608 + 32 * row + column
order_code k d c row column e h = omega arith

code_is : (F : Frame) (a b : ℕ) → part_code (Part.AtMost (term_at F a) (term_at F b)) ≡ 4608 + 32 * order_column F a + order_column F b
code_is F a b =
    order_code (term_kind (term_at F a)) (term_digit (term_at F a)) (column (term_at F b)) (order_column F a) (order_column F b) (column_is F a) (column_is F b)

-- the cell of the order of two terms
cell_is_shown : (w : Picture) (a b : ℕ) → a < term_count (frame_of w) → b < term_count (frame_of w) →
    slice_index_or w.said (4608 + 32 * order_column (frame_of w) a + order_column (frame_of w) b) false
    ≡ shown w (Part.AtMost (term_at (frame_of w) a) (term_at (frame_of w) b))
cell_is_shown w a b ha hb =
    let F = frame_of w in
    let fits : part_fits F (Part.AtMost (term_at F a) (term_at F b)) ≡ true = and_from (term_fits F (term_at F a)) (term_fits F (term_at F b)) (term_there F a ha) (term_there F b hb) in
    ap (λ code. slice_index_or w.said code false) (sym (code_is F a b))
    ∙ sym (ap (λ v. v && slice_index_or w.said (part_code (Part.AtMost (term_at F a) (term_at F b))) false) fits)

pub shown_by : (w : Picture) (a b row column : ℕ) → a < term_count (frame_of w) → b < term_count (frame_of w) →
    row ≡ order_column (frame_of w) a → column ≡ order_column (frame_of w) b →
    slice_index_or w.said (4608 + 32 * row + column) false ≡ shown w (Part.AtMost (term_at (frame_of w) a) (term_at (frame_of w) b))
shown_by w a b row column ha hb e h =
    ap (λ r. slice_index_or w.said (4608 + 32 * r + column) false) e
    ∙ ap (λ c. slice_index_or w.said (4608 + 32 * order_column (frame_of w) a + c) false) h
    ∙ cell_is_shown w a b ha hb

-- ---- an order by ranks

module _ (F : Frame) (p : pictures.Picture) (ranks : List ℕ) (all : order_is_ranked F p ranks ≡ true) where
  abbrev rank : ℕ → ℕ
  rank a = slice_index_or ranks a 0

  abbrev at_most : ℕ → ℕ → Bool
  at_most a b = p (Part.AtMost (term_at F a) (term_at F b))

  by_ranks : (a b : ℕ) → a < term_count F → b < term_count F → at_most a b ≡ not (nat_lt (rank b) (rank a))
  by_ranks a b ha hb =
      same_bits (at_most a b) (not (nat_lt (rank b) (rank a)))
      (each_passes (is_ranked F p ranks a) (term_count F) (each_passes (row_is_ranked F p ranks) (term_count F) all a ha) b hb)

  to_ranks : (a b : ℕ) → a < term_count F → b < term_count F → at_most a b ≡ true → rank a ≤ rank b
  to_ranks a b ha hb e = ltb-false (rank b) (rank a) (no_of (nat_lt (rank b) (rank a)) (sym (by_ranks a b ha hb) ∙ e))

  from_ranks : (a b : ℕ) → a < term_count F → b < term_count F → rank a ≤ rank b → at_most a b ≡ true
  from_ranks a b ha hb h = by_ranks a b ha hb ∙ ap not (le-ltb (rank b) (rank a) h)

  goes_on : (a b c : ℕ) → a < term_count F → b < term_count F → c < term_count F → at_most a b ≡ true → at_most b c ≡ true → at_most a c ≡ true
  goes_on a b c ha hb hc h k =
      let low : rank a ≤ rank b = to_ranks a b ha hb h in
      let high : rank b ≤ rank c = to_ranks b c hb hc k in
      from_ranks a c ha hc (omega arith)

  module _ (a b : ℕ) (ha : a < term_count F) (hb : b < term_count F) where
    pub compares : order_is_total p (term_at F a) (term_at F b) ≡ true
    compares =
        elim (cases_lt (rank b) (rank a)) [
          | inl below ↦ or_right (at_most a b) (at_most b a) (from_ranks b a hb ha (omega arith))
          | inr above ↦ or_left (at_most a b) (at_most b a) (from_ranks a b ha hb above)
        ]

    follows_at : at_most a b ≡ true → (c : ℕ) → c < term_count F → follows p (term_at F a) (term_at F b) (term_at F c) ≡ true
    follows_at h c hc = implied (at_most b c) (at_most a c) (goes_on a b c ha hb hc h)

    name_follows : at_most a b ≡ true → (n : ℕ) → n < F.names → follows p (term_at F a) (term_at F b) (Term.Node n) ≡ true
    name_follows h n few = subst (λ t. follows p (term_at F a) (term_at F b) t ≡ true) (at_name F n few) (follows_at h n (omega (arith, few)))

    other_follows : at_most a b ≡ true → (n : ℕ) → n < fixed_count F → follows p (term_at F a) (term_at F b) (fixed_term n) ≡ true
    other_follows h n few = subst (λ t. follows p (term_at F a) (term_at F b) t ≡ true) (at_fixed F n) (follows_at h (F.names + n) (omega (arith, few)))

    pub order_holds : order_goes_on F p (term_at F a) (term_at F b) ≡ true
    order_holds = implied (at_most a b) _ (λ h. and_from _ _ (all_pass _ F.names (name_follows h)) (all_pass _ (fixed_count F) (other_follows h)))

abbrev order : Family
order = Family.Keys KeyRule.InOrder

abbrev total : Family
total = Family.Keys KeyRule.Total

pub order_passes : (w : Picture) (ranks : List ℕ) → order_is_ranked (frame_of w) (shown w) ranks ≡ true → list_all (meets w) (rules_of (frame_of w) order) ≡ true
order_passes w ranks all =
    all_joined (meets w) (rules_by_second (frame_of w) order) (term_count (frame_of w)) (λ a ha.
    all_joined (meets w) (rules_by_third (frame_of w) order a) (term_count (frame_of w)) (λ b hb.
    third_meets w order a b (λ c. order_holds (frame_of w) (shown w) ranks all a b ha hb)))

pub total_passes : (w : Picture) (ranks : List ℕ) → order_is_ranked (frame_of w) (shown w) ranks ≡ true → list_all (meets w) (rules_of (frame_of w) total) ≡ true
total_passes w ranks all =
    all_joined (meets w) (rules_by_second (frame_of w) total) (term_count (frame_of w)) (λ a ha.
    all_joined (meets w) (rules_by_third (frame_of w) total a) (a + 1) (λ b hb.
    third_meets w total a b (λ c. compares (frame_of w) (shown w) ranks all a b ha (omega (arith, ha, hb)))))
