-- What may stand at once after a token, so that the token is read as it is spelled.
use Rattle.std.proofs.Common.{◌≡◌, ◌==◌, ℕ, ◌≤◌, Bool, true, false, not, ◌&&◌, ◌||◌, if◌then◌else◌, List, [], ◌∷◌, ◌++◌, length, nat_eq, refl, sym, ap, ◌∙◌, subst, arith, ◌⊎◌, inl, inr, eqb-true}
use Rattle.std.specs.List.{list_all, starts_with}
use Rattle.std.specs.Cmp.{first_so, second_so}
use Rattle.std.proofs.lemmas.Bool.{false≢true}
use Rattle.std.proofs.lemmas.Bool.Decides.{nat_tests}
use Rattle.plank_lex.specs.Bytes.{is_letter, is_name_byte, is_run_byte}
use Rattle.plank_lex.specs.Spelling.{spelling_of, word_of, is_word}
use Rattle.plank_lex.specs.Parts.{EndsBefore, SpellsSymbol, Spells}
use Rattle.plank_lex.proofs.Spelled.{word_of_runs, word_of_long, spelling_of_short}
use Rattle.plank_lex.specs.declared.symbols.Symbol.{Symbol}
use Rattle.plank_lex.specs.declared.symbols.Symbol.TheVariants as symbol
use Rattle.plank_lex.specs.declared.tokens.TokenKind.{TokenKind}
use Rattle.plank_lex.specs.declared.tokens.TokenKind.TheVariants as kind
use Rattle.plank_ast.specs.Spelling.{may_stand}
use Rattle.plank_ast.specs.Layout.{token_bytes, joins_before, joins}
use Rattle.plank_ast.proofs.Apart.{begins_equal, is_not}

-- ---- symbols of two bytes

-- whether two bytes are a symbol
abbrev continues : ℕ → ℕ → Bool
continues a b = if a == 38 then b == 38 else (if a == 124 then b == 124 else ((a == 61 || a == 33 || a == 60) && b == 61))

record IsTwo (t : Symbol) : Type 0 where
  first : ℕ
  second : ℕ
  spelled : spelling_of t ≡ first ∷ second ∷ []
  known : continues first second ≡ true

one_or_two : (t : Symbol) → (length (spelling_of t) ≤ 1) ⊎ IsTwo t
one_or_two symbol.OpenBrace = inl (omega arith)
one_or_two symbol.CloseBrace = inl (omega arith)
one_or_two symbol.OpenParenthesis = inl (omega arith)
one_or_two symbol.CloseParenthesis = inl (omega arith)
one_or_two symbol.Colon = inl (omega arith)
one_or_two symbol.Semicolon = inl (omega arith)
one_or_two symbol.Comma = inl (omega arith)
one_or_two symbol.Dot = inl (omega arith)
one_or_two symbol.Assign = inl (omega arith)
one_or_two symbol.Equal = inr (record { first = 61; second = 61; spelled = refl; known = refl })
one_or_two symbol.NotEqual = inr (record { first = 33; second = 61; spelled = refl; known = refl })
one_or_two symbol.Less = inl (omega arith)
one_or_two symbol.AtMost = inr (record { first = 60; second = 61; spelled = refl; known = refl })
one_or_two symbol.And = inr (record { first = 38; second = 38; spelled = refl; known = refl })
one_or_two symbol.Or = inr (record { first = 124; second = 124; spelled = refl; known = refl })
one_or_two symbol.Not = inl (omega arith)

never_two : (c : ℕ) (rest : List ℕ) → EndsBefore (continues c) rest → (a b : ℕ) → continues a b ≡ true → starts_with nat_eq (c ∷ rest) (a ∷ b ∷ []) ≡ true → ⊥
never_two c [] ends a b known h = false≢true (second_so (nat_eq a c) false h)
never_two c (d ∷ rest) ends a b known h =
    let first = eqb-true a c (first_so (nat_eq a c) (nat_eq b d && true) h) in
    let second = eqb-true b d (first_so (nat_eq b d) true (second_so (nat_eq a c) (nat_eq b d && true) h)) in
    false≢true (sym ends ∙ ap (λ (x : ℕ). continues x d) (sym first) ∙ ap (continues a) (sym second) ∙ known)

longest_by : (c : ℕ) (rest : List ℕ) → EndsBefore (continues c) rest → (t : Symbol) → starts_with nat_eq (c ∷ rest) (spelling_of t) ≡ true → (length (spelling_of t) ≤ 1) ⊎ IsTwo t → length (spelling_of t) ≤ 1
longest_by c rest ends t h (inl short) = short
longest_by c rest ends t h (inr two) =
    absurd (never_two c rest ends two.first two.second two.known (subst (λ (bytes : List ℕ). starts_with nat_eq (c ∷ rest) bytes ≡ true) two.spelled h))

longest_one : (c : ℕ) (rest : List ℕ) → EndsBefore (continues c) rest → (t : Symbol) → starts_with nat_eq (c ∷ rest) (spelling_of t) ≡ true → length (spelling_of t) ≤ 1
longest_one c rest ends t h = longest_by c rest ends t h (one_or_two t)

-- ---- tokens

-- the symbols that `=` makes longer
abbrev pub takes_equal : Symbol → Bool
takes_equal symbol.Assign = true
takes_equal symbol.Less = true
takes_equal symbol.Not = true
takes_equal s = false

-- whether a byte at once after the token goes on with it
abbrev pub goes_on : TokenKind → ℕ → Bool
goes_on (kind.Symbol s) b = takes_equal s && b == 61
goes_on (kind.Reserved r) b = is_run_byte b
goes_on (kind.Name label) b = is_run_byte b
goes_on kind.End b = false

symbol_spelled : (s : Symbol) (rest : List ℕ) → EndsBefore (goes_on (kind.Symbol s)) rest → SpellsSymbol s (spelling_of s) rest
symbol_spelled symbol.OpenBrace rest ends = record { spelled = refl; longest = longest_one 123 rest ends }
symbol_spelled symbol.CloseBrace rest ends = record { spelled = refl; longest = longest_one 125 rest ends }
symbol_spelled symbol.OpenParenthesis rest ends = record { spelled = refl; longest = longest_one 40 rest ends }
symbol_spelled symbol.CloseParenthesis rest ends = record { spelled = refl; longest = longest_one 41 rest ends }
symbol_spelled symbol.Colon rest ends = record { spelled = refl; longest = longest_one 58 rest ends }
symbol_spelled symbol.Semicolon rest ends = record { spelled = refl; longest = longest_one 59 rest ends }
symbol_spelled symbol.Comma rest ends = record { spelled = refl; longest = longest_one 44 rest ends }
symbol_spelled symbol.Dot rest ends = record { spelled = refl; longest = longest_one 46 rest ends }
symbol_spelled symbol.Assign rest ends = record { spelled = refl; longest = longest_one 61 rest ends }
symbol_spelled symbol.Less rest ends = record { spelled = refl; longest = longest_one 60 rest ends }
symbol_spelled symbol.Not rest ends = record { spelled = refl; longest = longest_one 33 rest ends }
symbol_spelled symbol.Equal rest ends = record { spelled = refl; longest = λ t h. (spelling_of_short t).1 }
symbol_spelled symbol.NotEqual rest ends = record { spelled = refl; longest = λ t h. (spelling_of_short t).1 }
symbol_spelled symbol.AtMost rest ends = record { spelled = refl; longest = λ t h. (spelling_of_short t).1 }
symbol_spelled symbol.And rest ends = record { spelled = refl; longest = λ t h. (spelling_of_short t).1 }
symbol_spelled symbol.Or rest ends = record { spelled = refl; longest = λ t h. (spelling_of_short t).1 }

-- a token is spelled by its bytes where no byte goes on with it
pub token_spelled : (k : TokenKind) (rest : List ℕ) → may_stand k ≡ true → EndsBefore (goes_on k) rest → Spells k (token_bytes k) rest
token_spelled (kind.Symbol s) rest stands ends = symbol_spelled s rest ends
token_spelled (kind.Reserved r) rest stands ends = (refl, ends)
token_spelled (kind.Name label) rest stands ends = (refl, stands, ends)
token_spelled kind.End rest stands ends = absurd (false≢true stands)

-- ---- what stands between tokens

and_false : (t : Bool) → (t && false) ≡ false
and_false true = refl
and_false false = refl

-- a byte that is no `=` and in no word ends every token
pub blank_stops : (k : TokenKind) (b : ℕ) → (b == 61) ≡ false → is_run_byte b ≡ false → goes_on k b ≡ false
blank_stops (kind.Symbol s) b equal run = ap (λ t. takes_equal s && t) equal ∙ and_false (takes_equal s)
blank_stops (kind.Reserved r) b equal run = run
blank_stops (kind.Name label) b equal run = run
blank_stops kind.End b equal run = refl

-- ---- a token that follows at once

nothing_goes_on : (bytes : List ℕ) → EndsBefore (λ b. false) bytes
nothing_goes_on [] = tt
nothing_goes_on (b ∷ bytes) = refl

-- the test fails at `;`, `,`, `)`, `.` and `(`
record StopsAtJoiners (test : ℕ → Bool) : Type 0 where
  semicolon : test 59 ≡ false
  comma : test 44 ≡ false
  close : test 41 ≡ false
  dot : test 46 ≡ false
  parenthesis : test 40 ≡ false

joiner_stops : (test : ℕ → Bool) → StopsAtJoiners test → (k next : TokenKind) (more : List ℕ) → joins_before k next ≡ true → EndsBefore test (token_bytes next ++ more)
joiner_stops test stops k (kind.Symbol symbol.Semicolon) more h = stops.semicolon
joiner_stops test stops k (kind.Symbol symbol.Comma) more h = stops.comma
joiner_stops test stops k (kind.Symbol symbol.CloseParenthesis) more h = stops.close
joiner_stops test stops k (kind.Symbol symbol.Dot) more h = stops.dot
joiner_stops test stops k (kind.Symbol symbol.OpenParenthesis) more h = stops.parenthesis
joiner_stops test stops k next more h = absurd (false≢true h)

abbrev is_equal_sign : ℕ → Bool
is_equal_sign b = b == 61

letter_is_no_equal : (b : ℕ) → is_letter b ≡ true → is_equal_sign b ≡ false
letter_is_no_equal b h = grind (arith, nat_tests)

run_byte_is_no_equal : (b : ℕ) → is_run_byte b ≡ true → is_equal_sign b ≡ false
run_byte_is_no_equal b h = grind (arith, nat_tests)

run_begins_no_equal : (bytes more : List ℕ) → 2 ≤ length bytes → list_all is_run_byte bytes ≡ true → EndsBefore is_equal_sign (bytes ++ more)
run_begins_no_equal [] more long h = absurd (omega arith)
run_begins_no_equal (b ∷ bytes) more long h = run_byte_is_no_equal b (first_so (is_run_byte b) (list_all is_run_byte bytes) h)

word_begins_no_equal : (bytes more : List ℕ) → is_word bytes ≡ true → EndsBefore is_equal_sign (bytes ++ more)
word_begins_no_equal [] more h = absurd (false≢true h)
word_begins_no_equal (b ∷ bytes) more h = letter_is_no_equal b (first_so (is_letter b) (list_all is_name_byte bytes) h)

no_equal_stops : (next : TokenKind) (more : List ℕ) → may_stand next ≡ true → begins_equal next ≡ false → EndsBefore is_equal_sign (token_bytes next ++ more)
no_equal_stops (kind.Symbol symbol.Assign) more stands h = absurd (false≢true (sym h))
no_equal_stops (kind.Symbol symbol.Equal) more stands h = absurd (false≢true (sym h))
no_equal_stops (kind.Symbol s) more stands h = refl
no_equal_stops (kind.Reserved r) more stands h = run_begins_no_equal (word_of r) more (word_of_long r) (word_of_runs r)
no_equal_stops (kind.Name label) more stands h = word_begins_no_equal label more (first_so (is_word label) _ stands)
no_equal_stops kind.End more stands h = absurd (false≢true stands)

not_true : (t : Bool) → not t ≡ true → t ≡ false
not_true true h = sym h
not_true false h = refl

-- a token ends before one that follows at once, but for `!` before `=` and `==`
pub joined_stops : (k next : TokenKind) (more : List ℕ) → may_stand next ≡ true → not (is_not k && begins_equal next) ≡ true → joins k next ≡ true → EndsBefore (goes_on k) (token_bytes next ++ more)
joined_stops (kind.Symbol symbol.Assign) next more stands apart h =
    joiner_stops is_equal_sign (record { semicolon = refl; comma = refl; close = refl; dot = refl; parenthesis = refl }) (kind.Symbol symbol.Assign) next more h
joined_stops (kind.Symbol symbol.Less) next more stands apart h =
    joiner_stops is_equal_sign (record { semicolon = refl; comma = refl; close = refl; dot = refl; parenthesis = refl }) (kind.Symbol symbol.Less) next more h
joined_stops (kind.Symbol symbol.Not) next more stands apart h = no_equal_stops next more stands (not_true (begins_equal next) apart)
joined_stops (kind.Symbol s) next more stands apart h = nothing_goes_on (token_bytes next ++ more)
joined_stops (kind.Reserved r) next more stands apart h =
    joiner_stops is_run_byte (record { semicolon = refl; comma = refl; close = refl; dot = refl; parenthesis = refl }) (kind.Reserved r) next more h
joined_stops (kind.Name label) next more stands apart h =
    joiner_stops is_run_byte (record { semicolon = refl; comma = refl; close = refl; dot = refl; parenthesis = refl }) (kind.Name label) next more h
joined_stops kind.End next more stands apart h = nothing_goes_on (token_bytes next ++ more)
