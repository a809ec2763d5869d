-- The canonical form of a text is ASCII, since its names are.
use Rattle.std.proofs.Common.{◌≡◌, ℕ, zero, suc, ◌<◌, Bool, true, false, ◌&&◌, List, [], ◌∷◌, refl, arith, nat_lt, cond}
use Rattle.std.specs.List.{list_all}
use Rattle.std.specs.Str.{IsAscii}
use Rattle.std.proofs.lemmas.Bool.Decides.{nat_tests}
use Rattle.std.proofs.lemmas.Str.{IsAscii-append}
use Rattle.std.proofs.lemmas.Str.Ascii.{IsAscii-nil, IsAscii-cons}
use Rattle.plank_lex.specs.Bytes.{is_letter, is_name_byte}
use Rattle.plank_lex.specs.Spelling.{spelling_of, word_of, is_word, is_name}
use Rattle.plank_lex.specs.declared.symbols.Symbol.{Symbol}
use Rattle.plank_lex.specs.declared.symbols.Symbol.TheVariants as symbol
use Rattle.plank_lex.specs.declared.words.Reserved.{Reserved}
use Rattle.plank_lex.specs.declared.words.Reserved.TheVariants as word
use Rattle.plank_lex.specs.declared.tokens.TokenKind.{TokenKind}
use Rattle.plank_lex.specs.declared.tokens.TokenKind.TheVariants as kind
use Rattle.plank_ast.specs.Spelling.{Spelling, may_stand, is_lawful}
use Rattle.plank_ast.specs.Layout.{blanks, breaks_line, joins, indent_levels, between, token_bytes, braces_after, layout_after, layout}

-- a byte below 128
abbrev below : ℕ → Bool
below b = nat_lt b 128

below_is : (b : ℕ) → below b ≡ true → b < 128
below_is b h = grind (arith, nat_tests)

-- both halves of a test
left_true : (a b : Bool) → (a && b) ≡ true → a ≡ true
left_true true b h = refl
left_true false b h = h

right_true : (a b : Bool) → (a && b) ≡ true → b ≡ true
right_true true b h = h
right_true false b h = absurd (cc)

ascii_from_test : (bytes : List ℕ) → list_all below bytes ≡ true → IsAscii bytes
ascii_from_test [] h = IsAscii-nil
ascii_from_test (b ∷ bytes) h =
    IsAscii-cons b bytes (below_is b (left_true (below b) (list_all below bytes) h)) (ascii_from_test bytes (right_true (below b) (list_all below bytes) h))

-- ---- tokens

symbol_test : (s : Symbol) → list_all below (spelling_of s) ≡ true
symbol_test symbol.OpenBrace = refl
symbol_test symbol.CloseBrace = refl
symbol_test symbol.OpenParenthesis = refl
symbol_test symbol.CloseParenthesis = refl
symbol_test symbol.Colon = refl
symbol_test symbol.Semicolon = refl
symbol_test symbol.Comma = refl
symbol_test symbol.Dot = refl
symbol_test symbol.Assign = refl
symbol_test symbol.Equal = refl
symbol_test symbol.NotEqual = refl
symbol_test symbol.Less = refl
symbol_test symbol.AtMost = refl
symbol_test symbol.And = refl
symbol_test symbol.Or = refl
symbol_test symbol.Not = refl

word_test : (r : Reserved) → list_all below (word_of r) ≡ true
word_test word.Structure = refl
word_test word.Flag = refl
word_test word.Pointer = refl
word_test word.Ascending = refl
word_test word.Descending = refl
word_test word.Free = refl
word_test word.Lock = refl
word_test word.Unlock = refl
word_test word.Root = refl
word_test word.Start = refl
word_test word.Edge = refl
word_test word.Holds = refl
word_test word.Keep = refl
word_test word.Freeze = refl
word_test word.Method = refl
word_test word.As = refl
word_test word.Variable = refl
word_test word.New = refl
word_test word.Atomic = refl
word_test word.Else = refl
word_test word.With = refl
word_test word.Test = refl
word_test word.Write = refl
word_test word.If = refl
word_test word.While = refl
word_test word.Loop = refl
word_test word.Break = refl
word_test word.Continue = refl
word_test word.Return = refl
word_test word.True = refl
word_test word.False = refl
word_test word.Null = refl
word_test word.In = refl
word_test word.Key = refl
word_test word.Min = refl
word_test word.Max = refl

letter_below : (b : ℕ) → is_letter b ≡ true → b < 128
letter_below b h = grind (arith, nat_tests)

name_byte_below : (b : ℕ) → is_name_byte b ≡ true → b < 128
name_byte_below b h = grind (arith, nat_tests)

name_bytes_ascii : (bytes : List ℕ) → list_all is_name_byte bytes ≡ true → IsAscii bytes
name_bytes_ascii [] h = IsAscii-nil
name_bytes_ascii (b ∷ bytes) h =
    IsAscii-cons b bytes (name_byte_below b (left_true (is_name_byte b) (list_all is_name_byte bytes) h)) (name_bytes_ascii bytes (right_true (is_name_byte b) (list_all is_name_byte bytes) h))

word_ascii : (bytes : List ℕ) → is_word bytes ≡ true → IsAscii bytes
word_ascii [] h = IsAscii-nil
word_ascii (b ∷ bytes) h =
    IsAscii-cons b bytes (letter_below b (left_true (is_letter b) (list_all is_name_byte bytes) h)) (name_bytes_ascii bytes (right_true (is_letter b) (list_all is_name_byte bytes) h))

name_ascii : (bytes : List ℕ) → is_name bytes ≡ true → IsAscii bytes
name_ascii bytes h = word_ascii bytes (left_true (is_word bytes) _ h)

token_ascii : (k : TokenKind) → may_stand k ≡ true → IsAscii (token_bytes k)
token_ascii (kind.Symbol s) h = ascii_from_test (spelling_of s) (symbol_test s)
token_ascii (kind.Reserved r) h = ascii_from_test (word_of r) (word_test r)
token_ascii (kind.Name label) h = name_ascii label h
token_ascii kind.End h = IsAscii-nil

-- ---- what stands between them

blanks_ascii : (levels : ℕ) → IsAscii (blanks levels)
blanks_ascii zero = IsAscii-nil
blanks_ascii (suc levels) = IsAscii-cons 32 (32 ∷ blanks levels) (omega arith) (IsAscii-cons 32 (blanks levels) (omega arith) (blanks_ascii levels))

between_ascii : (depth : ℕ) (k next : TokenKind) → IsAscii (between depth k next)
between_ascii depth k next =
    elim (breaks_line k next) as (λ b. IsAscii (cond b (10 ∷ blanks (indent_levels depth next)) (cond (joins k next) [] (32 ∷ [])))) [
      | true ↦ IsAscii-cons 10 _ (omega arith) (blanks_ascii (indent_levels depth next))
      | false ↦ elim (joins k next) as (λ b. IsAscii (cond b [] (32 ∷ []))) [ true ↦ IsAscii-nil | false ↦ IsAscii-cons 32 [] (omega arith) IsAscii-nil ]
    ]

layout_after_ascii : (depth : ℕ) (k : TokenKind) (ks : Spelling) → list_all may_stand ks ≡ true → IsAscii (layout_after depth k ks)
layout_after_ascii depth k [] h = IsAscii-cons 10 [] (omega arith) IsAscii-nil
layout_after_ascii depth k (next ∷ ks) h =
    IsAscii-append _ _ (IsAscii-append _ _ (between_ascii depth k next) (token_ascii next (left_true (may_stand next) (list_all may_stand ks) h)))
    (layout_after_ascii (braces_after depth next) next ks (right_true (may_stand next) (list_all may_stand ks) h))

layout_ascii : (ks : Spelling) → list_all may_stand ks ≡ true → IsAscii (layout ks)
layout_ascii [] h = IsAscii-nil
layout_ascii (k ∷ ks) h =
    IsAscii-append _ _ (token_ascii k (left_true (may_stand k) (list_all may_stand ks) h)) (layout_after_ascii (braces_after 0 k) k ks (right_true (may_stand k) (list_all may_stand ks) h))

pub lawful_layout_ascii : (ks : Spelling) → is_lawful ks ≡ true → IsAscii (layout ks)
lawful_layout_ascii ks h = layout_ascii ks (left_true (list_all may_stand ks) _ h)
