-- The lexeme at the front of a text, by the text's first byte.
use Rattle.std.proofs.Common.{◌≡◌, ℕ, ◌<◌, ◌≤◌, List, [], ◌∷◌, length, get_or, refl, arith, Some, None}
use Rattle.std.specs.Prelude.{nat_eq, if◌then◌else◌, codes}
use Rattle.std.specs.List.{take_while, starts_with}
use Rattle.plank_lex.specs.Bytes.{is_separator, is_run_byte}
use Rattle.plank_lex.specs.Lexemes.{lexeme_of, lexeme_as, line_length, word_lexeme, symbol_lexeme}
use Rattle.plank_lex.specs.declared.lexemes.LexemeKind.TheVariants as lexeme

pub lexeme_of_first : (text : List ℕ) → 1 ≤ length text → lexeme_of text ≡ (if is_separator (get_or text 0 0) then Some (lexeme_as lexeme.Gap 1)
    else (if starts_with nat_eq text (codes "//") then Some (lexeme_as lexeme.Gap (line_length text))
    else (if is_run_byte (get_or text 0 0) then word_lexeme (take_while is_run_byte text)
    else symbol_lexeme text)))
unfolding lexeme_of
lexeme_of_first [] h = absurd (omega arith)
lexeme_of_first (b ∷ bs) h = refl

pub lexeme_of_empty : (text : List ℕ) → length text < 1 → lexeme_of text ≡ None
unfolding lexeme_of
lexeme_of_empty [] h = refl
lexeme_of_empty (b ∷ bs) h = absurd (omega arith)
