-- A part at the front of a text is the lexeme that is found there.
use Rattle.std.proofs.Common.{◌≡◌, ℕ, suc, ◌≤◌, Bool, true, false, cond, eqb, ◌&&◌, List, [], ◌∷◌, ◌++◌, length, take, refl, ap, ◌∙◌, subst, arith, one-add, inl, inr, Option, Some, None, eqb-true, eq-eqb}
use Rattle.std.specs.Prelude.{nat_eq, codes}
use Rattle.std.specs.List.{take_while, starts_with, list_all}
use Rattle.std.specs.Option.{option_map, option_or, is_none}
use Rattle.std.proofs.lemmas.List.{take_at}
use lib.Pointwise.{pointwise}
use Rattle.plank_lex.specs.Bytes.{is_separator, is_letter, is_name_byte, is_run_byte}
use Rattle.plank_lex.specs.Spelling.{spelling_of, word_of, symbol_of, reserved_of, is_word, is_name}
use Rattle.plank_lex.specs.Lexemes.{lexeme_of, lexeme_as, line_length, word_lexeme, word_lexeme_by, symbol_at, symbol_lexeme}
use Rattle.plank_lex.specs.Parts.{Part, gap, token, bytes_of, IsPart, EndsBefore, is_in_line}
use Rattle.plank_lex.proofs.Runs.{prefix_len-append}
use Rattle.plank_lex.proofs.Spelled.{symbol_of_spells, reserved_of_word, word_of_runs, word_of_long, spelling_of_short}
use Rattle.plank_lex.specs.declared.symbols.Symbol.{Symbol}
use Rattle.plank_lex.specs.declared.symbols.Symbol.TheVariants as symbol
use Rattle.plank_lex.specs.declared.words.Reserved.{Reserved}
use Rattle.plank_lex.specs.declared.lexemes.Lexeme.{Lexeme}
use Rattle.plank_lex.specs.declared.lexemes.LexemeKind.{LexemeKind}
use Rattle.plank_lex.specs.declared.lexemes.LexemeKind.TheVariants as lexeme
use Rattle.plank_lex.specs.declared.tokens.TokenKind.TheVariants as kind

and_true : (t u : Bool) → (t && u) ≡ true → (t ≡ true) × (u ≡ true)
and_true true u h = (refl, h)
and_true false u h = cc

separator_found : (b : ℕ) (rest : List ℕ) → is_separator b ≡ true → lexeme_of (b ∷ rest) ≡ Some (lexeme_as lexeme.Gap 1)
unfolding lexeme_of
separator_found b rest h = rw h refl

comment_found : (remark rest : List ℕ) → list_all is_in_line remark ≡ true → EndsBefore is_in_line rest → lexeme_of ((codes "//" ++ remark) ++ rest) ≡ Some (lexeme_as lexeme.Gap (length (codes "//" ++ remark)))
unfolding lexeme_of
comment_found remark rest in_line ends =
    ap (λ n. Some (lexeme_as lexeme.Gap n)) (one-add _ ∙ ap suc (one-add _ ∙ ap suc (prefix_len-append is_in_line remark rest in_line ends)))

-- a byte of a run is none that makes no run
run_byte_differs : (k b : ℕ) → is_run_byte k ≡ false → is_run_byte b ≡ true → eqb k b ≡ false
run_byte_differs k b other h =
    elim (eqb k b) as (λ t. eqb k b ≡ t → t ≡ false) [
      | true ↦ λ e. let same = ap is_run_byte (eqb-true k b e) in cc
      | false ↦ λ e. refl
    ] refl

differs_run_byte : (k b : ℕ) → is_run_byte k ≡ false → is_run_byte b ≡ true → eqb b k ≡ false
differs_run_byte k b other h =
    elim (eqb b k) as (λ t. eqb b k ≡ t → t ≡ false) [
      | true ↦ λ e. let same = ap is_run_byte (eqb-true b k e) in cc
      | false ↦ λ e. refl
    ] refl

run_byte_separates_not : (b : ℕ) → is_run_byte b ≡ true → is_separator b ≡ false
run_byte_separates_not b h = rw (differs_run_byte 32 b refl h, differs_run_byte 9 b refl h, differs_run_byte 13 b refl h, differs_run_byte 10 b refl h) refl

run_begins_no_comment : (b : ℕ) (bs : List ℕ) → is_run_byte b ≡ true → starts_with nat_eq (b ∷ bs) (codes "//") ≡ false
run_begins_no_comment b bs h = rw (run_byte_differs 47 b refl h) refl

run_found : (run rest : List ℕ) → 1 ≤ length run → list_all is_run_byte run ≡ true → EndsBefore is_run_byte rest → lexeme_of (run ++ rest) ≡ word_lexeme run
unfolding lexeme_of
run_found [] rest some all ends = absurd (omega arith)
run_found (b ∷ bs) rest some all ends =
    let first = (and_true (is_run_byte b) (list_all is_run_byte bs) all).0 in
    let size = prefix_len-append is_run_byte (b ∷ bs) rest all ends in
    let run : take_while is_run_byte ((b ∷ bs) ++ rest) ≡ b ∷ bs =
    ap (λ n. take n ((b ∷ bs) ++ rest)) size ∙ take_at (b ∷ bs) rest (length (b ∷ bs)) refl in
    ap (λ t. cond t (Some (lexeme_as lexeme.Gap 1)) (cond (starts_with nat_eq ((b ∷ bs) ++ rest) (codes "//")) (Some (lexeme_as lexeme.Gap (line_length ((b ∷ bs) ++ rest)))) (cond (is_run_byte b) (word_lexeme (take_while is_run_byte ((b ∷ bs) ++ rest))) (symbol_lexeme ((b ∷ bs) ++ rest))))) (run_byte_separates_not b first)
    ∙ ap (λ t. cond t (Some (lexeme_as lexeme.Gap (line_length ((b ∷ bs) ++ rest)))) (cond (is_run_byte b) (word_lexeme (take_while is_run_byte ((b ∷ bs) ++ rest))) (symbol_lexeme ((b ∷ bs) ++ rest)))) (run_begins_no_comment b (bs ++ rest) first)
    ∙ ap (λ t. cond t (word_lexeme (take_while is_run_byte ((b ∷ bs) ++ rest))) (symbol_lexeme ((b ∷ bs) ++ rest))) first
    ∙ ap word_lexeme run

reserved_found : (r : Reserved) (rest : List ℕ) → EndsBefore is_run_byte rest → lexeme_of (word_of r ++ rest) ≡ Some (lexeme_as (lexeme.Reserved r) (length (word_of r)))
reserved_found r rest ends =
    run_found (word_of r) rest (omega (arith, word_of_long r)) (word_of_runs r) ends ∙ ap (word_lexeme_by (word_of r)) (reserved_of_word r)

name_bytes_run : (bytes : List ℕ) → list_all is_name_byte bytes ≡ true → list_all is_run_byte bytes ≡ true
name_bytes_run [] h = refl
name_bytes_run (b ∷ bs) h =
    let parts = and_true (is_name_byte b) (list_all is_name_byte bs) h in
    let first = parts.0 in
    rw first (name_bytes_run bs parts.1)

word_runs : (bytes : List ℕ) → is_word bytes ≡ true → (1 ≤ length bytes) × (list_all is_run_byte bytes ≡ true)
word_runs [] h = cc
word_runs (b ∷ bs) h =
    let parts = and_true (is_letter b) (list_all is_name_byte bs) h in
    let first = parts.0 in
    (omega arith, rw first (name_bytes_run bs parts.1))

none_is : {A : Type 0} (o : Option A) → is_none o ≡ true → o ≡ None
none_is None h = refl
none_is (Some x) h = cc

name_found : (label rest : List ℕ) → is_name label ≡ true → EndsBefore is_run_byte rest → lexeme_of (label ++ rest) ≡ Some (lexeme_as lexeme.Name (length label))
name_found label rest h ends =
    let parts = and_true (is_word label) (is_none (reserved_of label)) h in
    let run = word_runs label parts.0 in
    let free = none_is (reserved_of label) parts.1 in
    run_found label rest run.0 run.1 ends
    ∙ ap (word_lexeme_by label) free
    ∙ ap (λ t. cond t (Some (lexeme_as lexeme.Name (length label))) None) parts.0

pointwise_same : (bytes : List ℕ) → pointwise nat_eq bytes bytes ≡ true
pointwise_same [] = refl
pointwise_same (b ∷ bs) = let same = eq-eqb b b refl in rw same (pointwise_same bs)

starts_with_front : (bytes rest : List ℕ) → starts_with nat_eq (bytes ++ rest) bytes ≡ true
starts_with_front bytes rest = ap (λ front. pointwise nat_eq bytes front) (take_at bytes rest (length bytes) refl) ∙ pointwise_same bytes

-- a symbol of one byte, where no longer one stands
single_found : (b : ℕ) (rest : List ℕ) (s : Symbol) → symbol_of (b ∷ []) ≡ Some s → ((t : Symbol) → starts_with nat_eq (b ∷ rest) (spelling_of t) ≡ true → length (spelling_of t) ≤ 1) → symbol_at (b ∷ rest) ≡ Some s
single_found b [] s h longest = ap (λ o. option_or o (symbol_of (b ∷ []))) h
single_found b (c ∷ rest) s h longest =
    elim (symbol_of (b ∷ c ∷ [])) as (λ o. symbol_of (b ∷ c ∷ []) ≡ o → option_or o (symbol_of (b ∷ [])) ≡ Some s) [
      | None ↦ λ e. h
      | Some t ↦ λ e.
          let spelled : b ∷ c ∷ [] ≡ spelling_of t = symbol_of_spells (b ∷ c ∷ []) t e in
          let short = longest t (subst (λ bytes. starts_with nat_eq (b ∷ c ∷ rest) bytes ≡ true) spelled (starts_with_front (b ∷ c ∷ []) rest)) in
          absurd (omega (arith, short, ap length spelled))
    ] refl

symbol_found : (s : Symbol) (rest : List ℕ) → ((t : Symbol) → starts_with nat_eq (spelling_of s ++ rest) (spelling_of t) ≡ true → length (spelling_of t) ≤ length (spelling_of s)) → lexeme_of (spelling_of s ++ rest) ≡ Some (lexeme_as (lexeme.Symbol s) (length (spelling_of s)))
unfolding lexeme_of
symbol_found symbol.Equal rest longest = refl
symbol_found symbol.NotEqual rest longest = refl
symbol_found symbol.AtMost rest longest = refl
symbol_found symbol.And rest longest = refl
symbol_found symbol.Or rest longest = refl
symbol_found symbol.OpenBrace rest longest = ap (option_map (λ s. lexeme_as (lexeme.Symbol s) (length (spelling_of s)))) (single_found 123 rest symbol.OpenBrace refl longest)
symbol_found symbol.CloseBrace rest longest = ap (option_map (λ s. lexeme_as (lexeme.Symbol s) (length (spelling_of s)))) (single_found 125 rest symbol.CloseBrace refl longest)
symbol_found symbol.OpenParenthesis rest longest = ap (option_map (λ s. lexeme_as (lexeme.Symbol s) (length (spelling_of s)))) (single_found 40 rest symbol.OpenParenthesis refl longest)
symbol_found symbol.CloseParenthesis rest longest = ap (option_map (λ s. lexeme_as (lexeme.Symbol s) (length (spelling_of s)))) (single_found 41 rest symbol.CloseParenthesis refl longest)
symbol_found symbol.Colon rest longest = ap (option_map (λ s. lexeme_as (lexeme.Symbol s) (length (spelling_of s)))) (single_found 58 rest symbol.Colon refl longest)
symbol_found symbol.Semicolon rest longest = ap (option_map (λ s. lexeme_as (lexeme.Symbol s) (length (spelling_of s)))) (single_found 59 rest symbol.Semicolon refl longest)
symbol_found symbol.Comma rest longest = ap (option_map (λ s. lexeme_as (lexeme.Symbol s) (length (spelling_of s)))) (single_found 44 rest symbol.Comma refl longest)
symbol_found symbol.Dot rest longest = ap (option_map (λ s. lexeme_as (lexeme.Symbol s) (length (spelling_of s)))) (single_found 46 rest symbol.Dot refl longest)
symbol_found symbol.Assign rest longest = ap (option_map (λ s. lexeme_as (lexeme.Symbol s) (length (spelling_of s)))) (single_found 61 rest symbol.Assign refl longest)
symbol_found symbol.Less rest longest = ap (option_map (λ s. lexeme_as (lexeme.Symbol s) (length (spelling_of s)))) (single_found 60 rest symbol.Less refl longest)
symbol_found symbol.Not rest longest = ap (option_map (λ s. lexeme_as (lexeme.Symbol s) (length (spelling_of s)))) (single_found 33 rest symbol.Not refl longest)

abbrev pub lexeme_kind_of : Part → LexemeKind
lexeme_kind_of (gap bytes) = lexeme.Gap
lexeme_kind_of (token (kind.Symbol s) bytes) = lexeme.Symbol s
lexeme_kind_of (token (kind.Reserved r) bytes) = lexeme.Reserved r
lexeme_kind_of (token (kind.Name label) bytes) = lexeme.Name
lexeme_kind_of (token kind.End bytes) = lexeme.Gap

-- the lexeme that a part is
abbrev pub lexeme_in : Part → Lexeme
lexeme_in part = lexeme_as (lexeme_kind_of part) (length (bytes_of part))

pub part_found : (part : Part) (rest : List ℕ) → IsPart part rest → lexeme_of (bytes_of part ++ rest) ≡ Some (lexeme_in part)
part_found (gap bytes) rest (inl separator) = let alone = separator.alone in rw alone (separator_found separator.byte rest separator.separates)
part_found (gap bytes) rest (inr comment) = let begins = comment.begins in rw begins (comment_found comment.remark rest comment.in_line comment.ends)
part_found (token (kind.Symbol s) bytes) rest symbol =
    let spelled = symbol.spelled in rw spelled (symbol_found s rest (rw spelled at symbol.longest))
part_found (token (kind.Reserved r) bytes) rest word = let spelled = word.0 in rw spelled (reserved_found r rest word.1)
part_found (token (kind.Name label) bytes) rest name = let spelled = name.0 in rw spelled (name_found label rest name.1 name.2)
part_found (token kind.End bytes) rest none = absurd none

pub part_nonempty : (part : Part) (rest : List ℕ) → IsPart part rest → 1 ≤ length (bytes_of part)
part_nonempty (gap bytes) rest (inl separator) = omega (arith, ap length separator.alone)
part_nonempty (gap bytes) rest (inr comment) = omega (arith, ap length comment.begins)
part_nonempty (token (kind.Symbol s) bytes) rest symbol = omega (arith, ap length symbol.spelled, (spelling_of_short s).0)
part_nonempty (token (kind.Reserved r) bytes) rest word = omega (arith, ap length word.0, word_of_long r)
part_nonempty (token (kind.Name label) bytes) rest name =
    omega (arith, ap length name.0, (word_runs label (and_true (is_word label) (is_none (reserved_of label)) name.1).0).0)
part_nonempty (token kind.End bytes) rest none = absurd none
