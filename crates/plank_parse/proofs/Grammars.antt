-- Grammars as data: which tokens a rule asks for, which may begin it, and which would make it longer.
use Rattle.std.proofs.Common.{ℕ, Bool, true, false, not, ◌&&◌, ◌||◌, ◌==◌, List, [], ◌∷◌, ◌++◌, if◌then◌else◌, length, zero, suc}
use Rattle.plank_lex.specs.declared.symbols.Symbol.{Symbol}
use Rattle.plank_lex.specs.declared.symbols.Symbol.TheVariants as symbol
use Rattle.plank_lex.specs.declared.words.Reserved.{Reserved}
use Rattle.plank_lex.specs.declared.words.Reserved.TheVariants as word
use Rattle.plank_lex.specs.declared.tokens.TokenKind.{TokenKind}
use Rattle.plank_lex.specs.declared.tokens.TokenKind.TheVariants as kind
use Rattle.plank_ast.specs.Spelling.{Spelling}

-- ---- classes of tokens: each symbol, each reserved word, the names, the end

abbrev pub symbol_class : Symbol → ℕ
symbol_class symbol.OpenBrace = 1
symbol_class symbol.CloseBrace = 2
symbol_class symbol.OpenParenthesis = 3
symbol_class symbol.CloseParenthesis = 4
symbol_class symbol.Colon = 5
symbol_class symbol.Semicolon = 6
symbol_class symbol.Comma = 7
symbol_class symbol.Dot = 8
symbol_class symbol.Assign = 9
symbol_class symbol.Equal = 10
symbol_class symbol.NotEqual = 11
symbol_class symbol.Less = 12
symbol_class symbol.AtMost = 13
symbol_class symbol.And = 14
symbol_class symbol.Or = 15
symbol_class symbol.Not = 16

abbrev pub word_class : Reserved → ℕ
word_class word.Structure = 21
word_class word.Flag = 22
word_class word.Pointer = 23
word_class word.Ascending = 24
word_class word.Descending = 25
word_class word.Free = 26
word_class word.Lock = 27
word_class word.Unlock = 28
word_class word.Root = 29
word_class word.Start = 30
word_class word.Edge = 31
word_class word.Holds = 32
word_class word.Keep = 33
word_class word.Freeze = 34
word_class word.Method = 35
word_class word.As = 36
word_class word.Variable = 37
word_class word.New = 38
word_class word.Atomic = 39
word_class word.Else = 40
word_class word.With = 41
word_class word.Test = 42
word_class word.Write = 43
word_class word.If = 44
word_class word.While = 45
word_class word.Loop = 46
word_class word.Break = 47
word_class word.Continue = 48
word_class word.Return = 49
word_class word.True = 50
word_class word.False = 51
word_class word.Null = 52
word_class word.In = 53
word_class word.Key = 54
word_class word.Min = 55
word_class word.Max = 56

abbrev pub class_of : TokenKind → ℕ
class_of (kind.Symbol s) = symbol_class s
class_of (kind.Reserved r) = word_class r
class_of (kind.Name label) = 60
class_of kind.End = 61

abbrev pub member : ℕ → List ℕ → Bool
member c [] = false
member c (x ∷ xs) = c == x || member c xs

abbrev pub disjoint : List ℕ → List ℕ → Bool
disjoint [] ys = true
disjoint (x ∷ xs) ys = not (member x ys) && disjoint xs ys

-- whether the first token is of one of these classes
abbrev pub starts_in : List ℕ → Spelling → Bool
starts_in set [] = false
starts_in set (k ∷ ks) = member (class_of k) set

-- ---- grammars

-- what stands between two brackets
pub data Inside : Type 0 where
  condition : Inside
  start_items : Inside
  argument : Inside
  method_body : Inside
  statements : Inside
  block : Inside
  tests : Inside

pub data Grammar : Type 0 where
  -- a token of the class of this one
  one : TokenKind → Grammar
  nothing : Grammar
  -- no token, but one has to come next
  ahead : Grammar
  both : Grammar → Grammar → Grammar
  -- the first where its first token comes next, else the second
  either : Grammar → Grammar → Grammar
  many : Grammar → Grammar
  -- what stands inside, between two brackets
  group : TokenKind → Inside → TokenKind → Grammar

-- what stands between the brackets of each kind
abbrev pub Rules : Type 0
Rules = Inside → Grammar

-- whether no token at all is spelled by the rule
abbrev pub nullable : Grammar → Bool
nullable (one k) = false
nullable nothing = true
nullable ahead = true
nullable (both g h) = nullable g && nullable h
nullable (either g h) = nullable h
nullable (many g) = true
nullable (group o n c) = false

-- the classes of the tokens that begin the rule
abbrev pub firsts : Grammar → List ℕ
firsts (one k) = class_of k ∷ []
firsts nothing = []
firsts ahead = []
firsts (both g h) = firsts g ++ (if nullable g then firsts h else [])
firsts (either g h) = firsts g ++ firsts h
firsts (many g) = firsts g
firsts (group o n c) = class_of o ∷ []

-- the classes of the tokens that would make the rule longer
abbrev pub goes_on : Grammar → List ℕ
goes_on (one k) = []
goes_on nothing = []
goes_on ahead = []
goes_on (both g h) = goes_on h ++ (if nullable h then goes_on g else [])
goes_on (either g h) = goes_on g ++ (goes_on h ++ (if nullable h then firsts g else []))
goes_on (many g) = goes_on g ++ firsts g
goes_on (group o n c) = []

-- the brackets
abbrev pub openings : List ℕ
openings = 1 ∷ 3 ∷ []

abbrev pub closings : List ℕ
closings = 2 ∷ 4 ∷ []

abbrev pub end : ℕ
end = 61

-- whether the next token decides at each turn, where the insides are such, and brackets stand in groups alone
abbrev pub decides : Rules → Grammar → Bool
decides rules (one k) = not (member (class_of k) (openings ++ closings ++ end ∷ []))
decides rules nothing = true
decides rules ahead = true
decides rules (both g h) = decides rules g && decides rules h && disjoint (goes_on g) (firsts h)
decides rules (either g h) = decides rules g && decides rules h && not (nullable g) && disjoint (firsts g) (firsts h)
decides rules (many g) = decides rules g && not (nullable g) && disjoint (goes_on g) (firsts g)
decides rules (group o n c) =
    member (class_of o) openings && member (class_of c) closings && disjoint (goes_on (rules n)) (class_of c ∷ [])

-- ---- reading by a grammar

pub data Outcome : Type 0 where
  passed : Spelling → Outcome
  halted : Spelling → Outcome
  over : Spelling → Outcome

abbrev pub Recognizer : Type 0
Recognizer = Spelling → Outcome

abbrev pub then_on : Outcome → Recognizer → Outcome
then_on (passed rest) q = q rest
then_on (halted rest) q = halted rest
then_on (over rest) q = over rest

abbrev pub read_one : ℕ → Recognizer
read_one c [] = halted []
read_one c (k ∷ ks) = if class_of k == c then passed ks else halted (k ∷ ks)

abbrev pub read_ahead : Recognizer
read_ahead [] = halted []
read_ahead (k ∷ ks) = passed (k ∷ ks)

abbrev pub read_many : ℕ → List ℕ → Recognizer → Recognizer
read_many zero set q ks = passed ks
read_many (suc n) set q ks = if starts_in set ks then then_on (q ks) (read_many n set q) else passed ks

abbrev pub no_more : ℕ → Recognizer
no_more c ks = if starts_in (c ∷ []) ks then over ks else halted ks

abbrev pub read_group : ℕ → Recognizer → ℕ → Recognizer
read_group o q c ks = then_on (read_one o ks) (λ inner. then_on (q inner) (read_one c))

abbrev pub read_by : (ℕ → Inside → ℕ → Recognizer) → Grammar → Recognizer
read_by bracket (one k) ks = read_one (class_of k) ks
read_by bracket nothing ks = passed ks
read_by bracket ahead ks = read_ahead ks
read_by bracket (both g h) ks = then_on (read_by bracket g ks) (read_by bracket h)
read_by bracket (either g h) ks = if starts_in (firsts g) ks then read_by bracket g ks else read_by bracket h ks
read_by bracket (many g) ks = read_many (length ks) (firsts g) (read_by bracket g) ks
read_by bracket (group o n c) ks = bracket (class_of o) n (class_of c) ks

-- how many brackets may still be opened
abbrev pub bracket_at : Rules → ℕ → ℕ → Inside → ℕ → Recognizer
bracket_at rules zero o n c = no_more o
bracket_at rules (suc l) o n c = read_group o (read_by (bracket_at rules l) (rules n)) c

abbrev pub reads : Rules → ℕ → Grammar → Recognizer
reads rules l = read_by (bracket_at rules l)
