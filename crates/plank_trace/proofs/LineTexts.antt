-- How lines are written: without a line feed, with the first blank behind the thread, and no two alike.
use Rattle.std.proofs.Common.{◌≡◌, ℕ, ℤ, pos, negsuc, suc, ◌<◌, ◌^◌, Bool, true, false, ◌||◌, ◌==◌, not, List, [], ◌∷◌, ◌++◌, get_or, codes, refl, sym, ap, ◌∙◌, subst, arith, w64}
use Rattle.std.specs.Fmt.{decimal, signed_decimal}
use Rattle.std.specs.Str.{all_ascii_digits}
use Rattle.std.specs.Char.{is_ascii_digit}
use Rattle.std.specs.Str.Parse.{digits_value}
use Rattle.std.specs.Int.RustNames.{FitsSigned}
use Rattle.std.specs.List.{list_all}
use Rattle.std.specs.Prelude.{is_none}
use Rattle.std.proofs.lemmas.Bool.{and_parts, and_from, not_from_false, ne_eqb}
use Rattle.std.proofs.lemmas.Fmt.{digits_decimal, decimal_injective, signed_decimal_injective}
use Rattle.std.proofs.lemmas.Str.Parse.{IsNumeralModel, numerals_by_value, tells_all_ascii_digits}
use Rattle.plank_base.specs.declared.keys.ThreadId.{ThreadId}
use Rattle.plank_lex.specs.Bytes.{is_letter, is_digit, is_name_byte, underscore}
use Rattle.plank_lex.specs.Spelling.{is_word, is_name, reserved_of}
use Rattle.plank_trace.specs.declared.lines.Line.{Line}
use Rattle.plank_trace.specs.Schedules.{line_feed, blank, lacks, thread_text, line_text, IsThread, IsLine}
use Rattle.plank_trace.proofs.Cutting.{first_cut, not_lacked, lacks_both, lacks_from}

-- ---- numbers and names

own : IsNumeralModel (λ ds. all_ascii_digits ds ≡ true) (digits_value 10)
own = numerals_by_value _ tells_all_ascii_digits

lacks_from_digits : (c : ℕ) (bs : List ℕ) → is_ascii_digit c ≡ false → all_ascii_digits bs ≡ true → lacks c bs ≡ true
lacks_from_digits c [] other h = refl
lacks_from_digits c (b ∷ bs) other h =
    let parts = and_parts (is_ascii_digit b) (all_ascii_digits bs) h in
    let apart = λ (e : b ≡ c). let clash : true ≡ false = sym parts.0 ∙ ap is_ascii_digit e ∙ other in absurd (cc) in
    and_from (not (b == c)) (lacks c bs) (not_from_false (b == c) (ne_eqb b c apart)) (lacks_from_digits c bs other parts.1)

pub decimal_lacks : (c n : ℕ) → n < 2 ^ 64 → is_ascii_digit c ≡ false → lacks c (decimal n) ≡ true
decimal_lacks c n small other = lacks_from_digits c (decimal n) other (digits_decimal own n small)

pub signed_lacks : (c : ℕ) (z : ℤ) → FitsSigned w64 z → is_ascii_digit c ≡ false → (c ≡ 45 → ⊥) → lacks c (signed_decimal z) ≡ true
signed_lacks c (pos n) fits other sign = let small = fits.sfits in decimal_lacks c n (omega (arith, small)) other
signed_lacks c (negsuc n) fits other sign =
    let small = fits.sfits in
    and_from (not (45 == c)) (lacks c (decimal (suc n))) (not_from_false (45 == c) (ne_eqb 45 c (λ e. sign (sym e)))) (decimal_lacks c (suc n) (omega (arith, small)) other)

letter_names : (b : ℕ) → is_letter b ≡ true → is_name_byte b ≡ true
letter_names b h = ap (λ (t : Bool). t || is_digit b || b == underscore) h

word_lacks : (c : ℕ) (bs : List ℕ) → is_name_byte c ≡ false → is_word bs ≡ true → lacks c bs ≡ true
word_lacks c [] other h = refl
word_lacks c (b ∷ bs) other h =
    let parts = and_parts (is_letter b) (list_all is_name_byte bs) h in
    lacks_from is_name_byte c (b ∷ bs) other (and_from (is_name_byte b) (list_all is_name_byte bs) (letter_names b parts.0) parts.1)

pub name_lacks : (c : ℕ) (bs : List ℕ) → is_name_byte c ≡ false → is_name bs ≡ true → lacks c bs ≡ true
name_lacks c bs other h = word_lacks c bs other (and_parts (is_word bs) (is_none (reserved_of bs)) h).0

pub thread_lacks : (c : ℕ) (t : ThreadId) → IsThread t → is_ascii_digit c ≡ false → lacks c (thread_text t) ≡ true
thread_lacks c t is other = let small : t.0 < 64 = is in decimal_lacks c t.0 (omega (arith, small)) other

pub one_thread : (s t : ThreadId) → IsThread s → IsThread t → thread_text s ≡ thread_text t → s ≡ t
one_thread s t p q e =
    let small : s.0 < 64 = p in
    let small_too : t.0 < 64 = q in
    ap (λ (n : ℕ). record { 0 = n }) (decimal_injective s.0 t.0 (omega (arith, small)) (omega (arith, small_too)) e)

pub one_key : (j k : ℤ) → FitsSigned w64 j → FitsSigned w64 k → signed_decimal j ≡ signed_decimal k → j ≡ k
one_key j k p q e = signed_decimal_injective j k p.sfits q.sfits e

-- ---- lines

-- a byte that both sides lack, and that is no blank
lacks_around : (c : ℕ) (a b : List ℕ) → not (blank == c) ≡ true → lacks c a ≡ true → lacks c b ≡ true → lacks c (a ++ blank ∷ b) ≡ true
lacks_around c a b apart p q = lacks_both c a (blank ∷ b) p (and_from (not (blank == c)) (lacks c b) apart q)

pub feed_lacked : (l : Line) → IsLine l → lacks line_feed (line_text l) ≡ true
feed_lacked (Line.Go t) is = lacks_around line_feed (thread_text t) (codes "go") refl (thread_lacks line_feed t is refl) refl
feed_lacked (Line.Call t m k) is =
    lacks_around line_feed (thread_text t) (codes "call" ++ blank ∷ (m ++ blank ∷ signed_decimal k)) refl (thread_lacks line_feed t is.0 refl)
    (lacks_around line_feed (codes "call") (m ++ blank ∷ signed_decimal k) refl refl
    (lacks_around line_feed m (signed_decimal k) refl (name_lacks line_feed m refl is.1) (signed_lacks line_feed k is.2 refl (λ e. absurd (omega (arith, e))))))

-- the line `text` has no blank
pub not_text : (l : Line) → codes "text" ≡ line_text l → ⊥
not_text (Line.Go t) e = not_lacked blank (thread_text t) (codes "go") (subst (λ (bs : List ℕ). lacks blank bs ≡ true) e refl)
not_text (Line.Call t m k) e =
    not_lacked blank (thread_text t) (codes "call" ++ blank ∷ (m ++ blank ∷ signed_decimal k)) (subst (λ (bs : List ℕ). lacks blank bs ≡ true) e refl)

pub go_no_call : (rest : List ℕ) → codes "go" ≡ codes "call" ++ rest → ⊥
go_no_call rest e = let clash : 103 ≡ 99 = ap (λ (bs : List ℕ). get_or bs 0 0) e in absurd (omega (arith, clash))

pub one_line : (l m : Line) → IsLine l → IsLine m → line_text l ≡ line_text m → l ≡ m
one_line (Line.Go s) (Line.Go t) p q e =
    ap (λ (x : ThreadId). Line.Go x) (one_thread s t p q (first_cut blank (thread_text s) (codes "go") (thread_text t) (codes "go") (thread_lacks blank s p refl) (thread_lacks blank t q refl) e).0)
one_line (Line.Go s) (Line.Call t m k) p q e =
    absurd (go_no_call (blank ∷ (m ++ blank ∷ signed_decimal k))
    (first_cut blank (thread_text s) (codes "go") (thread_text t) (codes "call" ++ blank ∷ (m ++ blank ∷ signed_decimal k)) (thread_lacks blank s p refl) (thread_lacks blank t q.0 refl) e).1)
one_line (Line.Call t m k) (Line.Go s) p q e =
    absurd (go_no_call (blank ∷ (m ++ blank ∷ signed_decimal k))
    (sym (first_cut blank (thread_text t) (codes "call" ++ blank ∷ (m ++ blank ∷ signed_decimal k)) (thread_text s) (codes "go") (thread_lacks blank t p.0 refl) (thread_lacks blank s q refl) e).1))
one_line (Line.Call s m j) (Line.Call t n k) p q e =
    let cut = first_cut blank (thread_text s) (codes "call" ++ blank ∷ (m ++ blank ∷ signed_decimal j)) (thread_text t) (codes "call" ++ blank ∷ (n ++ blank ∷ signed_decimal k)) (thread_lacks blank s p.0 refl) (thread_lacks blank t q.0 refl) e in
    let word = first_cut blank (codes "call") (m ++ blank ∷ signed_decimal j) (codes "call") (n ++ blank ∷ signed_decimal k) refl refl cut.1 in
    let name = first_cut blank m (signed_decimal j) n (signed_decimal k) (name_lacks blank m refl p.1) (name_lacks blank n refl q.1) word.1 in
    let thread = one_thread s t p.0 q.0 cut.0 in
    let key = one_key j k p.2 q.2 name.1 in
    ap (λ (x : ThreadId). Line.Call x m j) thread ∙ ap (λ (ms : List ℕ). Line.Call t ms j) name.0 ∙ ap (λ (x : ℤ). Line.Call t n x) key
