-- What bytes spell is found again, and what is found is spelled so.
use Rattle.std.proofs.Common.{◌≡◌, ℕ, ◌<◌, ◌≤◌, Bool, true, false, cond, List, [], ◌∷◌, length, refl, sym, ap, subst, arith, Option, Some, None}
use Rattle.std.specs.Prelude.{find, nat_eq}
use Rattle.std.specs.List.{list_all}
use Rattle.std.specs.Cmp.Lexicographic.{same_text}
use lib.Pointwise.{pointwise}
use Rattle.plank_lex.specs.Bytes.{is_run_byte}
use Rattle.plank_lex.specs.Spelling.{spelling_of, symbols, word_of, symbol_of, reserved_of}
use Rattle.plank_lex.specs.declared.symbols.Symbol.{Symbol}
use Rattle.plank_lex.specs.declared.symbols.Symbol.TheVariants as symbol
use Rattle.plank_lex.specs.declared.words.Reserved.{Reserved}
use Rattle.plank_lex.specs.declared.words.Reserved.TheVariants as word
use Rattle.plank_lex.specs.declared.words.TheConstants.{RESERVED_WORDS}

-- what is found passes
find_passes : {X : Type 0} (p : X → Bool) (xs : List X) (x : X) → find p xs ≡ Some x → p x ≡ true
find_passes p [] x h = cc
find_passes {X} p (y ∷ ys) x h =
    elim (p y) as (λ t. p y ≡ t → cond t (Some y) (find p ys) ≡ Some x → p x ≡ true) [
      | true ↦ λ passes found. let same : y ≡ x = cc in subst (λ (z : X). p z ≡ true) same passes
      | false ↦ λ fails found. find_passes p ys x found
    ] refl h

pub symbol_of_spells : (bytes : List ℕ) (s : Symbol) → symbol_of bytes ≡ Some s → bytes ≡ spelling_of s
symbol_of_spells bytes s h = sym (same_text (spelling_of s) bytes (sym (find_passes (λ t. pointwise nat_eq (spelling_of t) bytes) symbols s h)))

pub reserved_of_spells : (bytes : List ℕ) (r : Reserved) → reserved_of bytes ≡ Some r → bytes ≡ word_of r
unfolding reserved_of
reserved_of_spells bytes r h = sym (same_text (word_of r) bytes (sym (find_passes (λ t. pointwise nat_eq (word_of t) bytes) RESERVED_WORDS r h)))

pub symbol_of_spelling : (s : Symbol) → symbol_of (spelling_of s) ≡ Some s
symbol_of_spelling symbol.OpenBrace = refl
symbol_of_spelling symbol.CloseBrace = refl
symbol_of_spelling symbol.OpenParenthesis = refl
symbol_of_spelling symbol.CloseParenthesis = refl
symbol_of_spelling symbol.Colon = refl
symbol_of_spelling symbol.Semicolon = refl
symbol_of_spelling symbol.Comma = refl
symbol_of_spelling symbol.Dot = refl
symbol_of_spelling symbol.Assign = refl
symbol_of_spelling symbol.Equal = refl
symbol_of_spelling symbol.NotEqual = refl
symbol_of_spelling symbol.Less = refl
symbol_of_spelling symbol.AtMost = refl
symbol_of_spelling symbol.And = refl
symbol_of_spelling symbol.Or = refl
symbol_of_spelling symbol.Not = refl

pub reserved_of_word : (r : Reserved) → reserved_of (word_of r) ≡ Some r
unfolding reserved_of
reserved_of_word word.Structure = refl
reserved_of_word word.Flag = refl
reserved_of_word word.Pointer = refl
reserved_of_word word.Ascending = refl
reserved_of_word word.Descending = refl
reserved_of_word word.Free = refl
reserved_of_word word.Lock = refl
reserved_of_word word.Unlock = refl
reserved_of_word word.Root = refl
reserved_of_word word.Start = refl
reserved_of_word word.Edge = refl
reserved_of_word word.Holds = refl
reserved_of_word word.Keep = refl
reserved_of_word word.Freeze = refl
reserved_of_word word.Method = refl
reserved_of_word word.As = refl
reserved_of_word word.Variable = refl
reserved_of_word word.New = refl
reserved_of_word word.Atomic = refl
reserved_of_word word.Else = refl
reserved_of_word word.With = refl
reserved_of_word word.Test = refl
reserved_of_word word.Write = refl
reserved_of_word word.If = refl
reserved_of_word word.While = refl
reserved_of_word word.Loop = refl
reserved_of_word word.Break = refl
reserved_of_word word.Continue = refl
reserved_of_word word.Return = refl
reserved_of_word word.True = refl
reserved_of_word word.False = refl
reserved_of_word word.Null = refl
reserved_of_word word.In = refl
reserved_of_word word.Key = refl
reserved_of_word word.Min = refl
reserved_of_word word.Max = refl

-- a reserved word is a run
pub word_of_runs : (r : Reserved) → list_all is_run_byte (word_of r) ≡ true
word_of_runs word.Structure = refl
word_of_runs word.Flag = refl
word_of_runs word.Pointer = refl
word_of_runs word.Ascending = refl
word_of_runs word.Descending = refl
word_of_runs word.Free = refl
word_of_runs word.Lock = refl
word_of_runs word.Unlock = refl
word_of_runs word.Root = refl
word_of_runs word.Start = refl
word_of_runs word.Edge = refl
word_of_runs word.Holds = refl
word_of_runs word.Keep = refl
word_of_runs word.Freeze = refl
word_of_runs word.Method = refl
word_of_runs word.As = refl
word_of_runs word.Variable = refl
word_of_runs word.New = refl
word_of_runs word.Atomic = refl
word_of_runs word.Else = refl
word_of_runs word.With = refl
word_of_runs word.Test = refl
word_of_runs word.Write = refl
word_of_runs word.If = refl
word_of_runs word.While = refl
word_of_runs word.Loop = refl
word_of_runs word.Break = refl
word_of_runs word.Continue = refl
word_of_runs word.Return = refl
word_of_runs word.True = refl
word_of_runs word.False = refl
word_of_runs word.Null = refl
word_of_runs word.In = refl
word_of_runs word.Key = refl
word_of_runs word.Min = refl
word_of_runs word.Max = refl

-- a reserved word has two bytes or more
pub word_of_long : (r : Reserved) → 2 ≤ length (word_of r)
word_of_long word.Structure = omega arith
word_of_long word.Flag = omega arith
word_of_long word.Pointer = omega arith
word_of_long word.Ascending = omega arith
word_of_long word.Descending = omega arith
word_of_long word.Free = omega arith
word_of_long word.Lock = omega arith
word_of_long word.Unlock = omega arith
word_of_long word.Root = omega arith
word_of_long word.Start = omega arith
word_of_long word.Edge = omega arith
word_of_long word.Holds = omega arith
word_of_long word.Keep = omega arith
word_of_long word.Freeze = omega arith
word_of_long word.Method = omega arith
word_of_long word.As = omega arith
word_of_long word.Variable = omega arith
word_of_long word.New = omega arith
word_of_long word.Atomic = omega arith
word_of_long word.Else = omega arith
word_of_long word.With = omega arith
word_of_long word.Test = omega arith
word_of_long word.Write = omega arith
word_of_long word.If = omega arith
word_of_long word.While = omega arith
word_of_long word.Loop = omega arith
word_of_long word.Break = omega arith
word_of_long word.Continue = omega arith
word_of_long word.Return = omega arith
word_of_long word.True = omega arith
word_of_long word.False = omega arith
word_of_long word.Null = omega arith
word_of_long word.In = omega arith
word_of_long word.Key = omega arith
word_of_long word.Min = omega arith
word_of_long word.Max = omega arith

-- a symbol has one or two bytes
pub spelling_of_short : (s : Symbol) → (1 ≤ length (spelling_of s)) × (length (spelling_of s) ≤ 2)
spelling_of_short symbol.OpenBrace = (omega arith, omega arith)
spelling_of_short symbol.CloseBrace = (omega arith, omega arith)
spelling_of_short symbol.OpenParenthesis = (omega arith, omega arith)
spelling_of_short symbol.CloseParenthesis = (omega arith, omega arith)
spelling_of_short symbol.Colon = (omega arith, omega arith)
spelling_of_short symbol.Semicolon = (omega arith, omega arith)
spelling_of_short symbol.Comma = (omega arith, omega arith)
spelling_of_short symbol.Dot = (omega arith, omega arith)
spelling_of_short symbol.Assign = (omega arith, omega arith)
spelling_of_short symbol.Equal = (omega arith, omega arith)
spelling_of_short symbol.NotEqual = (omega arith, omega arith)
spelling_of_short symbol.Less = (omega arith, omega arith)
spelling_of_short symbol.AtMost = (omega arith, omega arith)
spelling_of_short symbol.And = (omega arith, omega arith)
spelling_of_short symbol.Or = (omega arith, omega arith)
spelling_of_short symbol.Not = (omega arith, omega arith)

reserved_of_short_by : (bytes : List ℕ) → length bytes < 2 → (o : Option Reserved) → reserved_of bytes ≡ o → o ≡ None
reserved_of_short_by bytes short None e = refl
reserved_of_short_by bytes short (Some r) e = absurd (omega (arith, ap length (reserved_of_spells bytes r e), word_of_long r))

pub reserved_of_short : (bytes : List ℕ) → length bytes < 2 → reserved_of bytes ≡ None
reserved_of_short bytes short = reserved_of_short_by bytes short (reserved_of bytes) refl
