-- What stands at the front of a text: a separator, a comment, a symbol or a word, the longest there is.
use Rattle.std.specs.Prelude.{ℕ, not, ◌==◌, List, [], ◌∷◌, length, take, nat_eq, if◌then◌else◌, Option, Some, None, codes}
use Rattle.std.specs.List.{prefix_len, take_while, starts_with}
use Rattle.std.specs.Option.{option_map, option_or}
use Rattle.plank_lex.specs.Bytes.{line_feed, is_separator, is_run_byte}
use Rattle.plank_lex.specs.Spelling.{spelling_of, symbol_of, reserved_of, is_word}
use Rattle.plank_lex.specs.declared.symbols.Symbol.{Symbol}
use Rattle.plank_lex.specs.declared.words.Reserved.{Reserved}
use Rattle.plank_lex.specs.declared.lexemes.Lexeme.{Lexeme}
use Rattle.plank_lex.specs.declared.lexemes.LexemeKind.{LexemeKind}
use Rattle.plank_lex.specs.declared.lexemes.LexemeKind.TheVariants as lexeme

abbrev pub lexeme_as : LexemeKind → ℕ → Lexeme
lexeme_as kind length = record { kind = kind; length = length }

-- the length of the front without a line feed
abbrev pub line_length : List ℕ → ℕ
line_length bytes = prefix_len (λ b. not (b == line_feed)) bytes

-- the symbol at the front; of two the longer
abbrev pub symbol_at : List ℕ → Option Symbol
symbol_at bytes = option_or (symbol_of (take 2 bytes)) (symbol_of (take 1 bytes))

abbrev pub symbol_lexeme : List ℕ → Option Lexeme
symbol_lexeme bytes = option_map (λ s. lexeme_as (lexeme.Symbol s) (length (spelling_of s))) (symbol_at bytes)

-- a run of letters, digits and `_` is a reserved word, a name or nothing
abbrev pub word_lexeme_by : List ℕ → Option Reserved → Option Lexeme
word_lexeme_by run (Some r) = Some (lexeme_as (lexeme.Reserved r) (length run))
word_lexeme_by run None = if is_word run then Some (lexeme_as lexeme.Name (length run)) else None

abbrev pub word_lexeme : List ℕ → Option Lexeme
word_lexeme run = word_lexeme_by run (reserved_of run)

-- the lexeme at the front, or none where the first byte begins none
unfoldable pub lexeme_of : List ℕ → Option Lexeme
lexeme_of [] = None
lexeme_of (b ∷ bs) =
    if is_separator b then Some (lexeme_as lexeme.Gap 1)
    else (if starts_with nat_eq (b ∷ bs) (codes "//") then Some (lexeme_as lexeme.Gap (line_length (b ∷ bs)))
    else (if is_run_byte b then word_lexeme (take_while is_run_byte (b ∷ bs))
    else symbol_lexeme (b ∷ bs)))
