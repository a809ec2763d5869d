-- How long a large text is.
use Rattle.std.proofs.Common.{◌≡◌, refl, ℕ, zero, suc, ◌+◌, ◌-◌, ◌*◌, ◌^◌, ◌<◌, ◌≤◌, ◌==◌, ◌++◌, List, [], ◌∷◌, Bool, true, false, length, ap, arith}
use Rattle.std.specs.Prelude.{codes, if◌then◌else◌}
use Rattle.std.specs.Fmt.{decimal}
use Rattle.std.proofs.lemmas.List.{length-append}
use Rattle.std.proofs.lemmas.Fmt.{length-decimal-le}
use Rattle.plank_base.specs.declared.limits.TheConstants.{BYTES_LIMIT}
use Rattle.plank_report.specs.Pieces.{line}
use Rattle.plank_large.specs.Texts.{header_text, insert_text, delete_text, find_steps, find_name, find_text, finds_text, large_text}

header_length : length header_text ≡ 321
unfolding header_text
header_length = refl

insert_length : length insert_text ≡ 529
unfolding insert_text
insert_length = refl

delete_length : length delete_text ≡ 524
unfolding delete_text
delete_length = refl

steps_length : length find_steps ≡ 182
unfolding find_steps
steps_length = refl

number_few : (i : ℕ) → i < 100 → length (codes "find" ++ decimal i ++ codes " as contains") ≤ 20
number_few i small =
    let all = length-append (codes "find") (decimal i ++ codes " as contains") in
    let rest = length-append (decimal i) (codes " as contains") in
    let digits = length-decimal-le 2 i (omega arith) (omega arith) (omega arith) in
    omega arith

name_few : (i : ℕ) → i < 100 → length (find_name i) ≤ 20
name_few i small = go (i == 1)
  where
    go : (b : Bool) → length (if b then codes "contains" else codes "find" ++ decimal i ++ codes " as contains") ≤ 20
    go true = omega arith
    go false = number_few i small

find_few : (i : ℕ) → i < 100 → length (find_text i) ≤ 300
find_few i small =
    omega (
      arith,
      name_few i small,
      steps_length,
      length-append (find_name i) (line (codes "(k) {") ++ find_steps),
      length-append (line (codes "(k) {")) find_steps,
      length-append (find_name i ++ line (codes "(k) {")) find_steps,
      length-append (find_name i) (line (codes "(k) {")),
      length-append (codes "method " ++ find_name i ++ line (codes "(k) {")) find_steps,
      length-append (codes "method " ++ find_name i) (line (codes "(k) {")),
      length-append (codes "method ") (find_name i),
      length-append (codes "method ") (find_name i ++ line (codes "(k) {") ++ find_steps),
    )

finds_few : (n : ℕ) → n < 99 → length (finds_text n) ≤ 300 * n
finds_few zero small = omega arith
finds_few (suc n) small =
    let both = length-append (finds_text n) (find_text (suc n)) in
    let before = finds_few n (omega arith) in
    let last = find_few (suc n) (omega arith) in
    omega arith

pub large_few : (methods : ℕ) → methods ≤ 16 → length (large_text methods) ≤ BYTES_LIMIT
large_few methods few =
    omega (
      arith,
      header_length,
      insert_length,
      delete_length,
      finds_few (methods - 2) (omega arith),
      length-append header_text (insert_text ++ delete_text ++ finds_text (methods - 2)),
      length-append insert_text (delete_text ++ finds_text (methods - 2)),
      length-append delete_text (finds_text (methods - 2)),
      length-append (header_text ++ insert_text ++ delete_text) (finds_text (methods - 2)),
      length-append (header_text ++ insert_text) delete_text,
      length-append header_text insert_text,
    )
