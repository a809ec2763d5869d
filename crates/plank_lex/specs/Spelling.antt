-- How symbols and reserved words are spelled, and which bytes are a name.
use Rattle.std.specs.Prelude.{ℕ, Bool, false, ◌&&◌, List, [], ◌∷◌, find, nat_eq, Option, is_none}
use Rattle.std.specs.List.{list_all}
use lib.Chars.{codes}
use lib.Pointwise.{pointwise}
use Rattle.plank_lex.specs.Bytes.{is_letter, is_name_byte}
use Rattle.plank_lex.specs.declared.symbols.Symbol.{Symbol}
use Rattle.plank_lex.specs.declared.symbols.Symbol.TheVariants as symbol
use Rattle.plank_lex.specs.declared.words.Reserved.{Reserved}
use Rattle.plank_lex.specs.declared.words.Reserved.TheVariants as word
use Rattle.plank_lex.specs.declared.words.TheConstants.{RESERVED_WORDS}

-- the bytes of a symbol
abbrev pub spelling_of : Symbol → List ℕ
spelling_of symbol.OpenBrace = codes "{"
spelling_of symbol.CloseBrace = codes "}"
spelling_of symbol.OpenParenthesis = codes "("
spelling_of symbol.CloseParenthesis = codes ")"
spelling_of symbol.Colon = codes ":"
spelling_of symbol.Semicolon = codes ";"
spelling_of symbol.Comma = codes ","
spelling_of symbol.Dot = codes "."
spelling_of symbol.Assign = codes "="
spelling_of symbol.Equal = codes "=="
spelling_of symbol.NotEqual = codes "!="
spelling_of symbol.Less = codes "<"
spelling_of symbol.AtMost = codes "<="
spelling_of symbol.And = codes "&&"
spelling_of symbol.Or = codes "||"
spelling_of symbol.Not = codes "!"

-- the bytes of a reserved word
abbrev pub word_of : Reserved → List ℕ
word_of word.Structure = codes "structure"
word_of word.Flag = codes "flag"
word_of word.Pointer = codes "ptr"
word_of word.Ascending = codes "asc"
word_of word.Descending = codes "desc"
word_of word.Free = codes "free"
word_of word.Lock = codes "lock"
word_of word.Unlock = codes "unlock"
word_of word.Root = codes "root"
word_of word.Start = codes "start"
word_of word.Edge = codes "edge"
word_of word.Holds = codes "holds"
word_of word.Keep = codes "keep"
word_of word.Freeze = codes "freeze"
word_of word.Method = codes "method"
word_of word.As = codes "as"
word_of word.Variable = codes "var"
word_of word.New = codes "new"
word_of word.Atomic = codes "atomic"
word_of word.Else = codes "else"
word_of word.With = codes "with"
word_of word.Test = codes "test"
word_of word.Write = codes "write"
word_of word.If = codes "if"
word_of word.While = codes "while"
word_of word.Loop = codes "loop"
word_of word.Break = codes "break"
word_of word.Continue = codes "continue"
word_of word.Return = codes "return"
word_of word.True = codes "true"
word_of word.False = codes "false"
word_of word.Null = codes "null"
word_of word.In = codes "in"
word_of word.Key = codes "key"
word_of word.Min = codes "MIN"
word_of word.Max = codes "MAX"

-- every symbol once
abbrev pub symbols : List Symbol
symbols =
    symbol.OpenBrace ∷ symbol.CloseBrace ∷ symbol.OpenParenthesis ∷ symbol.CloseParenthesis ∷ symbol.Colon ∷ symbol.Semicolon ∷ symbol.Comma ∷ symbol.Dot ∷
    symbol.Assign ∷ symbol.Equal ∷ symbol.NotEqual ∷ symbol.Less ∷ symbol.AtMost ∷ symbol.And ∷ symbol.Or ∷ symbol.Not ∷ []

-- the symbol that is spelled so, if one is
abbrev pub symbol_of : List ℕ → Option Symbol
symbol_of bytes = find (λ s. pointwise nat_eq (spelling_of s) bytes) symbols

-- the reserved word that is spelled so, if one is
unfoldable pub reserved_of : List ℕ → Option Reserved
reserved_of bytes = find (λ r. pointwise nat_eq (word_of r) bytes) RESERVED_WORDS

-- a letter, and then letters, digits and `_`
abbrev pub is_word : List ℕ → Bool
is_word [] = false
is_word (b ∷ bs) = is_letter b && list_all is_name_byte bs

-- a word that is not reserved
abbrev pub is_name : List ℕ → Bool
is_name bytes = is_word bytes && is_none (reserved_of bytes)
