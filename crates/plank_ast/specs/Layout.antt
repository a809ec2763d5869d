-- The canonical form: where lines break, how they are indented, and where blanks stand between tokens.
use Rattle.std.specs.Prelude.{ℕ, zero, suc, ◌+◌, ◌-◌, Bool, true, false, not, ◌||◌, List, [], ◌∷◌, ◌++◌, if◌then◌else◌}
use Rattle.plank_lex.specs.Spelling.{spelling_of, word_of}
use Rattle.plank_lex.specs.declared.symbols.Symbol.TheVariants as symbol
use Rattle.plank_lex.specs.declared.words.Reserved.TheVariants as word
use Rattle.plank_lex.specs.declared.tokens.TokenKind.{TokenKind}
use Rattle.plank_lex.specs.declared.tokens.TokenKind.TheVariants as kind
use Rattle.plank_ast.specs.Spelling.{Spelling}

-- the bytes of a token
abbrev pub token_bytes : TokenKind → List ℕ
token_bytes (kind.Symbol s) = spelling_of s
token_bytes (kind.Reserved r) = word_of r
token_bytes (kind.Name label) = label
token_bytes kind.End = []

abbrev pub is_else : TokenKind → Bool
is_else (kind.Reserved word.Else) = true
is_else k = false

abbrev pub is_close_brace : TokenKind → Bool
is_close_brace (kind.Symbol symbol.CloseBrace) = true
is_close_brace k = false

-- a line ends after a semicolon and after a brace, but `else` follows its brace
abbrev pub breaks_line : TokenKind → TokenKind → Bool
breaks_line (kind.Symbol symbol.Semicolon) next = true
breaks_line (kind.Symbol symbol.OpenBrace) next = true
breaks_line (kind.Symbol symbol.CloseBrace) next = not (is_else next)
breaks_line k next = false

-- no blank stands after `(`, `.` and `!`
abbrev pub joins_next : TokenKind → Bool
joins_next (kind.Symbol symbol.OpenParenthesis) = true
joins_next (kind.Symbol symbol.Dot) = true
joins_next (kind.Symbol symbol.Not) = true
joins_next k = false

abbrev pub is_name_token : TokenKind → Bool
is_name_token (kind.Name label) = true
is_name_token k = false

-- no blank stands before `;`, `,`, `)` and `.`, and before the `(` that follows a name
abbrev pub joins_before : TokenKind → TokenKind → Bool
joins_before k (kind.Symbol symbol.Semicolon) = true
joins_before k (kind.Symbol symbol.Comma) = true
joins_before k (kind.Symbol symbol.CloseParenthesis) = true
joins_before k (kind.Symbol symbol.Dot) = true
joins_before k (kind.Symbol symbol.OpenParenthesis) = is_name_token k
joins_before k next = false

-- whether no blank stands between two tokens of a line
abbrev pub joins : TokenKind → TokenKind → Bool
joins k next = joins_next k || joins_before k next

-- two blanks for each level
abbrev pub blanks : ℕ → List ℕ
blanks zero = []
blanks (suc levels) = 32 ∷ 32 ∷ blanks levels

-- a line is indented by one level for each open brace; a closing brace stands with the line that opened it
abbrev pub indent_levels : ℕ → TokenKind → ℕ
indent_levels depth next = if is_close_brace next then depth - 1 else depth

-- what stands between two tokens, with so many braces open after the first
abbrev pub between : ℕ → TokenKind → TokenKind → List ℕ
between depth k next =
    if breaks_line k next then 10 ∷ blanks (indent_levels depth next)
    else (if joins k next then [] else 32 ∷ [])

-- how many braces are open after a token
abbrev pub braces_after : ℕ → TokenKind → ℕ
braces_after depth (kind.Symbol symbol.OpenBrace) = depth + 1
braces_after depth (kind.Symbol symbol.CloseBrace) = depth - 1
braces_after depth k = depth

-- what stands after a token that ended with so many braces open, with a line feed at the end
abbrev pub layout_after : ℕ → TokenKind → Spelling → List ℕ
layout_after depth k [] = 10 ∷ []
layout_after depth k (next ∷ rest) =
    between depth k next ++ token_bytes next ++ layout_after (braces_after depth next) next rest

-- the canonical form of these tokens
abbrev pub layout : Spelling → List ℕ
layout [] = []
layout (k ∷ ks) = token_bytes k ++ layout_after (braces_after 0 k) k ks
