-- The lexeme at the front of a text is a part of it.
use Rattle.std.proofs.Common.{◌≡◌, ℕ, zero, suc, ◌<◌, ◌≤◌, Bool, true, false, cond, ◌&&◌, List, [], ◌∷◌, ◌++◌, length, take, drop, refl, ap, ◌∙◌, sym, arith, inl, inr, ⊎_elim, one-add, Option, Some, None}
use Rattle.std.specs.Prelude.{nat_eq, codes}
use Rattle.std.specs.List.{prefix_len, take_while, starts_with}
use Rattle.std.specs.Option.{option_map, option_or, is_none}
use Rattle.std.specs.Cmp.Lexicographic.{same_text}
use Rattle.std.proofs.lemmas.List.{take-append-drop, length-take-le}
use Rattle.std.proofs.Math.ListN.{length-take}
use Rattle.std.proofs.lemmas.List.Sums.{prefix_len-le-length}
use Rattle.std.proofs.lemmas.Bool.{cases_lt}
use Rattle.plank_lex.specs.Bytes.{is_separator, is_run_byte}
use Rattle.plank_lex.specs.Spelling.{spelling_of, symbol_of, reserved_of, is_word}
use Rattle.plank_lex.specs.Lexemes.{lexeme_of, lexeme_as, line_length, word_lexeme, word_lexeme_by, symbol_lexeme}
use Rattle.plank_lex.specs.Parts.{Part, gap, token, IsPart, EndsBefore, is_in_line}
use Rattle.plank_lex.proofs.Runs.{list_all-take_while, prefix_len_ends}
use Rattle.plank_lex.proofs.Spelled.{symbol_of_spells, symbol_of_spelling, reserved_of_spells, spelling_of_short}
use Rattle.plank_lex.specs.declared.symbols.Symbol.{Symbol}
use Rattle.plank_lex.specs.declared.words.Reserved.{Reserved}
use Rattle.plank_lex.specs.declared.lexemes.Lexeme.{Lexeme}
use Rattle.plank_lex.specs.declared.lexemes.LexemeKind.{LexemeKind}
use Rattle.plank_lex.specs.declared.lexemes.LexemeKind.TheVariants as lexeme
use Rattle.plank_lex.specs.declared.tokens.TokenKind.TheVariants as kind

-- the part that a lexeme of these bytes is
abbrev pub part_of : LexemeKind → List ℕ → Part
part_of lexeme.Gap bytes = gap bytes
part_of (lexeme.Symbol s) bytes = token (kind.Symbol s) bytes
part_of (lexeme.Reserved r) bytes = token (kind.Reserved r) bytes
part_of lexeme.Name bytes = token (kind.Name bytes) bytes

-- n bytes of the text are such a part of it
pub record Stands (text : List ℕ) (k : LexemeKind) (n : ℕ) : Type 0 where
  pub some : 1 ≤ n
  pub within : n ≤ length text
  pub part : IsPart (part_of k (take n text)) (drop n text)

abbrev pub StandsIfFound : List ℕ → Option Lexeme → Type 0
StandsIfFound text None = Unit {0}
StandsIfFound text (Some found) = Stands text found.kind found.length

by_test : (text : List ℕ) (t : Bool) (x y : Option Lexeme) → (t ≡ true → StandsIfFound text x) → (t ≡ false → StandsIfFound text y) → StandsIfFound text (cond t x y)
by_test text true x y yes_case no_case = yes_case refl
by_test text false x y yes_case no_case = no_case refl

separator_stands : (b : ℕ) (bs : List ℕ) → is_separator b ≡ true → Stands (b ∷ bs) lexeme.Gap 1
separator_stands b bs h = record { some = omega arith; within = omega arith; part = inl (record { byte = b; alone = refl; separates = h }) }

-- a comment, where its two slashes are known
remark_stands : (remark text : List ℕ) → text ≡ codes "//" ++ remark → Stands text lexeme.Gap (line_length text)
remark_stands remark text e =
    let n = line_length remark in
    let size : line_length (codes "//" ++ remark) ≡ suc (suc n) = one-add _ ∙ ap suc (one-add _) in
    let fits = prefix_len-le-length is_in_line remark in
    let stands : Stands (codes "//" ++ remark) lexeme.Gap (suc (suc n)) = record {
      some = omega arith;
      within = omega arith;
      part = inr (record { remark = take n remark; begins = refl; in_line = list_all-take_while is_in_line remark; ends = prefix_len_ends is_in_line remark });
    } in
    rw e (rw size stands)

comment_stands : (text : List ℕ) → starts_with nat_eq text (codes "//") ≡ true → Stands text lexeme.Gap (line_length text)
comment_stands text h =
    remark_stands (drop 2 text) text (sym (take-append-drop 2 text) ∙ ap (λ front. front ++ drop 2 text) (sym (same_text (codes "//") (take 2 text) (sym h))))

-- a run of n bytes
module _ (text : List ℕ) (n : ℕ) (some : 1 ≤ n) (within : n ≤ length text) (ends : EndsBefore is_run_byte (drop n text)) where
  word_stands_by : (o : Option Reserved) → reserved_of (take n text) ≡ o → StandsIfFound text (word_lexeme_by (take n text) o)
  word_stands_by (Some r) e =
      let size = length-take-le n text within in
      rw size (record { some = some; within = within; part = (reserved_of_spells (take n text) r e, ends) })
  word_stands_by None e =
      let size = length-take-le n text within in
      by_test text (is_word (take n text)) _ _
      (λ word. rw size (record { some = some; within = within; part = (refl, (ap (λ t. t && is_none (reserved_of (take n text))) word ∙ ap is_none e), ends) }))
      (λ other. tt)

run_stands : (b : ℕ) (bs : List ℕ) → is_run_byte b ≡ true → StandsIfFound (b ∷ bs) (word_lexeme (take_while is_run_byte (b ∷ bs)))
run_stands b bs h =
    let text = b ∷ bs in
    let n = prefix_len is_run_byte text in
    let some : 1 ≤ n = rw h (omega arith) in
    word_stands_by text n some (prefix_len-le-length is_run_byte text) (prefix_len_ends is_run_byte text) (reserved_of (take n text)) refl

take-length-take : (m : ℕ) (xs : List ℕ) → take (length (take m xs)) xs ≡ take m xs
take-length-take zero xs = refl
take-length-take (suc m) [] = refl
take-length-take (suc m) (x ∷ xs) = ap (λ front. x ∷ front) (take-length-take m xs)

-- a symbol that is a front of the text, no longer one being so
symbol_stands_as : (text : List ℕ) (m : ℕ) (s : Symbol) → spelling_of s ≡ take m text → ((t : Symbol) → starts_with nat_eq text (spelling_of t) ≡ true → length (spelling_of t) ≤ length (spelling_of s)) → Stands text (lexeme.Symbol s) (length (spelling_of s))
symbol_stands_as text m s e longest =
    let n = length (spelling_of s) in
    let size = ap length e ∙ length-take m text in
    let front : take n text ≡ spelling_of s = ap (λ bytes. take (length bytes) text) e ∙ take-length-take m text ∙ sym e in
    let whole = take-append-drop n text in
    record {
      some = (spelling_of_short s).0;
      within = omega (arith, size);
      part = record {
        spelled = front;
        longest = λ t h. rw front (longest t (rw whole at h));
      };
    }

-- a symbol that is a front of the text is no longer than the text
spelling_within : (text : List ℕ) (t : Symbol) → starts_with nat_eq text (spelling_of t) ≡ true → length (spelling_of t) ≤ length text
spelling_within text t h =
    omega (arith, ap length (same_text (spelling_of t) (take (length (spelling_of t)) text) (sym h)), length-take (length (spelling_of t)) text)

-- a symbol of two bytes is found where it is a front of the text
symbol_of_two : (text : List ℕ) (t : Symbol) → starts_with nat_eq text (spelling_of t) ≡ true → 1 < length (spelling_of t) → symbol_of (take 2 text) ≡ Some t
symbol_of_two text t h long =
    let two : length (spelling_of t) ≡ 2 = omega (arith, (spelling_of_short t).1) in
    let front = same_text (spelling_of t) (take (length (spelling_of t)) text) (sym h) in
    ap symbol_of (sym (front ∙ ap (λ n. take n text) two)) ∙ symbol_of_spelling t

symbol_stands_by : (text : List ℕ) (longer shorter : Option Symbol) → symbol_of (take 2 text) ≡ longer → symbol_of (take 1 text) ≡ shorter → 0 < length text → StandsIfFound text (option_map (λ s. lexeme_as (lexeme.Symbol s) (length (spelling_of s))) (option_or longer shorter))
symbol_stands_by text (Some s) shorter e f some =
    let spelled = sym (symbol_of_spells (take 2 text) s e) in
    let size = ap length spelled ∙ length-take 2 text in
    symbol_stands_as text 2 s spelled (λ t h. omega (arith, spelling_within text t h, (spelling_of_short t).1, size))
symbol_stands_by text None (Some s) e f some =
    let spelled = sym (symbol_of_spells (take 1 text) s f) in
    let size = ap length spelled ∙ length-take 1 text in
    symbol_stands_as text 1 s spelled
    (λ t h. ⊎_elim
    (λ long. let found = symbol_of_two text t h long in absurd cc)
    (λ short. omega (arith, (spelling_of_short s).0))
    (cases_lt 1 (length (spelling_of t))))
symbol_stands_by text None None e f some = tt

symbol_stands : (text : List ℕ) → 0 < length text → StandsIfFound text (symbol_lexeme text)
symbol_stands text some = symbol_stands_by text (symbol_of (take 2 text)) (symbol_of (take 1 text)) refl refl some

pub lexeme_stands : (text : List ℕ) → StandsIfFound text (lexeme_of text)
unfolding lexeme_of
lexeme_stands [] = tt
lexeme_stands (b ∷ bs) =
    by_test (b ∷ bs) (is_separator b) _ _ (separator_stands b bs) (λ other.
    by_test (b ∷ bs) (starts_with nat_eq (b ∷ bs) (codes "//")) _ _ (comment_stands (b ∷ bs)) (λ other.
    by_test (b ∷ bs) (is_run_byte b) _ _ (run_stands b bs) (λ other.
    symbol_stands (b ∷ bs) (omega arith))))
