-- Numbers as `parse` reads them, and what a parser's answer says of its words.
use Rattle.std.proofs.Common.{◌≡◌, refl, ℕ, ◌≤◌, ◌<◌, List, [], ◌∷◌, Bool, true, false, length, Option, Some, None, ◌∙◌, ap, sym, arith, inl, inr}
use Rattle.std.specs.Prelude.{◌&&◌, nat_le, Result, Ok, Err}
use Rattle.std.specs.List.{list_all}
use Rattle.std.specs.Cmp.{first_so, second_so}
use Rattle.std.proofs.lemmas.Bool.{leb-true}
use Rattle.std.specs.Char.{is_ascii_digit}
use Rattle.std.specs.Str.{all_ascii_digits}
use Rattle.std.specs.Str.Parse.{ParsesUnsigned, digits_value}
use Rattle.std.proofs.lemmas.Str.Parse.{IsNumeralModel, numerals_by_value, tells_all_ascii_digits, parse_gives, digits_value_short}
use Rattle.clap.specs.Words.{App, Text, Kinds, IsAmong, HasKind, built, fault_of, first_of, is_simple, is_simple_and_free, kind_of, matches_of}
use Rattle.clap.specs.Faults.{is_free_app}
use Rattle.clap.specs.declared.error.Error.{Error}
use Rattle.clap.specs.declared.error.kind.ErrorKind.TheVariants as kind
use Rattle.clap.specs.declared.error.kind.ErrorKind.{ErrorKind}
use Rattle.plank_words.specs.Numbers.{is_number, number_in}
use Rattle.plank_words.specs.Parsers.{value_in}

pub all_digits : (text : List ℕ) → list_all is_ascii_digit text ≡ all_ascii_digits text
all_digits [] = refl
all_digits (c ∷ cs) = ap (λ b. is_ascii_digit c && b) (all_digits cs)

own : IsNumeralModel (λ ds. all_ascii_digits ds ≡ true) (digits_value 10)
own = numerals_by_value _ tells_all_ascii_digits

-- a number is read as it is
pub number_reads : {E : Type 0} (text : List ℕ) (r : Result ℕ E) → ParsesUnsigned 64 10 text r → is_number text ≡ true → r ≡ Ok (digits_value 10 text)
number_reads text r reads is =
    let some = leb-true 1 (length text) (first_so (nat_le 1 (length text)) (nat_le (length text) 10 && list_all is_ascii_digit text) is) in
    let rest = second_so (nat_le 1 (length text)) (nat_le (length text) 10 && list_all is_ascii_digit text) is in
    let few = leb-true (length text) 10 (first_so (nat_le (length text) 10) (list_all is_ascii_digit text) rest) in
    let digits = sym (all_digits text) ∙ second_so (nat_le (length text) 10) (list_all is_ascii_digit text) rest in
    parse_gives own 64 text r reads digits (omega arith) (omega (arith, digits_value_short own text 10 digits few))

-- where no fault is found
pub value_taken : (app : App) (id : Text) (words : List Text) → fault_of app words ≡ [] → value_in app id words ≡ Some (first_of id (matches_of app words))
value_taken app id words none = rw none refl

-- where one is
pub value_refused : (app : App) (id : Text) (words : List Text) (kinds : Kinds) (k : ErrorKind) → fault_of app words ≡ kinds → IsAmong k kinds → value_in app id words ≡ None
value_refused app id words [] k are among = absurd among
value_refused app id words (x ∷ xs) k are among = rw are refl

-- where a parser fails for another cause than memory
pub value_faulty : (app : App) (id : Text) (words : List Text) (error : Error) → HasKind (fault_of app words) error → (kind_of error ≡ kind.OutOfMemory → ⊥) → value_in app id words ≡ None
value_faulty app id words error (inl memory) other = absurd (other memory)
value_faulty app id words error (inr among) other = value_refused app id words (fault_of app words) (kind_of error) refl among

pub is_simple_too : (app : App) → is_simple_and_free app ≡ true → is_simple app ≡ true
is_simple_too app is = first_so (is_simple app) (is_free_app (built app)) is
