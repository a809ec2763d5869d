-- A tally of parts that are read one by one.
use Rattle.std.proofs.Common.{◌≡◌, ◌+◌, ◌<◌, ◌≤◌, ℕ, Bool, true, false, cond, take, length, get_or, count_by, refl, sym, arith}
use Rattle.std.specs.Prelude.{List, Option, Some, None}
use Rattle.std.proofs.lemmas.List.{length-take}
use Rattle.std.proofs.lemmas.List.Sums.{count_by_more_no, count_by_more_yes}
use Rattle.plank_search.specs.Assignments.{value_at}
use Rattle.plank_search.specs.Answers.{IsOpenIfSome}
use Rattle.plank_search.specs.Counting.{TallyOf, tally_with, earlier_or}
use Rattle.plank_search.specs.declared.counts.Tally.{Tally}

count-more : (full : ℕ → Bool) (parts : List ℕ) (i : ℕ) (value : Bool) → i < length parts → full (get_or parts i 0) ≡ value →
    count_by full (take (i + 1) parts) ≡ count_by full (take i parts) + cond value 1 0
count-more full parts i true below e = count_by_more_yes full parts i 0 below e
count-more full parts i false below e = let same = count_by_more_no full parts i 0 below e in omega (arith, same)

count-at_most_one_more : (full : ℕ → Bool) (parts : List ℕ) (i : ℕ) (value : Bool) → i < length parts → full (get_or parts i 0) ≡ value →
    (count_by full (take i parts) ≤ count_by full (take (i + 1) parts)) × (count_by full (take (i + 1) parts) ≤ count_by full (take i parts) + 1)
count-at_most_one_more full parts i true below e = let more = count-more full parts i true below e in (omega (arith, more), omega (arith, more))
count-at_most_one_more full parts i false below e = let more = count-more full parts i false below e in (omega (arith, more), omega (arith, more))

earlier-open : (values : List (Option Bool)) (first : Option ℕ) (part : ℕ) → IsOpenIfSome values first → value_at values part ≡ None → IsOpenIfSome values (earlier_or first part)
earlier-open values None part h open_part = open_part
earlier-open values (Some first) part h open_part = h

earlier-some : (first : Option ℕ) (part : ℕ) → earlier_or first part ≡ None → ⊥
earlier-some None part h = cc
earlier-some (Some first) part h = cc

longer : (parts : List ℕ) (i : ℕ) → i < length parts → length (take (i + 1) parts) ≡ length (take i parts) + 1
longer parts i below = simp length-take (omega arith)

-- one more part, read as it stands under the values
pub TallyOf-more : (values : List (Option Bool)) (parts : List ℕ) (i : ℕ) (tally : Tally) (value : Option Bool) → i < length parts → value ≡ value_at values (get_or parts i 0) →
    TallyOf values (take i parts) tally → TallyOf values (take (i + 1) parts) (tally_with tally (get_or parts i 0) value)
TallyOf-more values parts i tally None below read so_far = record {
  at_least = λ full agrees. let more = (count-at_most_one_more full parts i (full (get_or parts i 0)) below refl).0 in omega (arith, more, so_far.at_least full agrees);
  at_most = λ full agrees. let more = (count-at_most_one_more full parts i (full (get_or parts i 0)) below refl).1 in omega (arith, more, so_far.at_most full agrees);
  first = earlier-open values tally.first_open (get_or parts i 0) so_far.first (sym read);
  none = λ h. absurd (earlier-some tally.first_open (get_or parts i 0) h);
  within = omega (arith, longer parts i below, so_far.within);
}
TallyOf-more values parts i tally (Some true) below read so_far = record {
  at_least = λ full agrees. let more = count-more full parts i true below (agrees.decided (get_or parts i 0) true (sym read)) in omega (arith, more, so_far.at_least full agrees);
  at_most = λ full agrees. let more = count-more full parts i true below (agrees.decided (get_or parts i 0) true (sym read)) in omega (arith, more, so_far.at_most full agrees);
  first = so_far.first;
  none = so_far.none;
  within = omega (arith, longer parts i below, so_far.within);
}
TallyOf-more values parts i tally (Some false) below read so_far = record {
  at_least = λ full agrees. let more = count-more full parts i false below (agrees.decided (get_or parts i 0) false (sym read)) in omega (arith, more, so_far.at_least full agrees);
  at_most = λ full agrees. let more = count-more full parts i false below (agrees.decided (get_or parts i 0) false (sym read)) in omega (arith, more, so_far.at_most full agrees);
  first = so_far.first;
  none = so_far.none;
  within = omega (arith, longer parts i below, so_far.within);
}
