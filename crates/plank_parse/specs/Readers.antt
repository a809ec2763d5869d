-- Readers: what a part of a text is found to be at the front of a list of tokens, and the steps that each
-- rule of the grammar is made of.
use Rattle.std.specs.Prelude.{ℕ, zero, suc, Bool, true, false, not, List, [], ◌∷◌, length, Option, Some, None, if◌then◌else◌}
use Rattle.plank_base.specs.declared.places.Place.{Place}
use Rattle.plank_lex.specs.Kinds.{is_symbol, is_reserved}
use Rattle.plank_lex.specs.declared.symbols.Symbol.{Symbol}
use Rattle.plank_lex.specs.declared.words.Reserved.{Reserved}
use Rattle.plank_lex.specs.declared.tokens.Token.{Token}
use Rattle.plank_lex.specs.declared.tokens.TokenKind.{TokenKind}
use Rattle.plank_lex.specs.declared.tokens.TokenKind.TheVariants as kind
use Rattle.plank_ast.specs.declared.names.Name.{Name}

-- what stands at the front of a list of tokens
pub data Found (A : Type 0) : Type 0 where
  -- a part, and the tokens after it
  read : A → List Token → Found A
  -- the tokens from the first one that does not go on
  stopped : List Token → Found A
  -- the tokens from the bracket that is one too many
  too_deep : List Token → Found A

abbrev pub Reader : Type 0 → Type 0
Reader A = List Token → Found A

abbrev pub and_then : {A B : Type 0} → Found A → (A → Reader B) → Found B
and_then (read a rest) next = next a rest
and_then (stopped rest) next = stopped rest
and_then (too_deep rest) next = too_deep rest

infixl 10 ◌>>=◌
abbrev pub ◌>>=◌ : {A B : Type 0} → Reader A → (A → Reader B) → Reader B
r >>= next = λ tokens. and_then (r tokens) next

infixl 10 ◌>>◌
abbrev pub ◌>>◌ : {A B : Type 0} → Reader A → Reader B → Reader B
r >> s = r >>= (λ _. s)

abbrev pub pure : {A : Type 0} → A → Reader A
pure a = λ tokens. read a tokens

infixr 11 ◌<$>◌
abbrev pub ◌<$>◌ : {A B : Type 0} → (A → B) → Reader A → Reader B
f <$> r = r >>= (λ a. pure (f a))

-- the first token does not go on
abbrev pub refuse : {A : Type 0} → Reader A
refuse = λ tokens. stopped tokens

-- ---- one token

abbrev pub is_end : TokenKind → Bool
is_end kind.End = true
is_end k = false

abbrev pub is_name : TokenKind → Bool
is_name (kind.Name label) = true
is_name k = false

-- whether the second kind is the first, which is no name
abbrev pub is_kind : TokenKind → TokenKind → Bool
is_kind (kind.Symbol s) own = is_symbol own s
is_kind (kind.Reserved r) own = is_reserved own r
is_kind (kind.Name label) own = false
is_kind kind.End own = is_end own

abbrev pub is_other : TokenKind → TokenKind → Bool
is_other k own = not (is_kind k own)

-- whether the first token passes the test
abbrev pub begins : (TokenKind → Bool) → List Token → Bool
begins test [] = false
begins test (t ∷ ts) = test t.kind

-- this very token, which is no name, and its place
abbrev pub expected : TokenKind → Reader Place
expected k [] = stopped []
expected k (t ∷ ts) = if is_kind k t.kind then read t.place ts else stopped (t ∷ ts)

abbrev pub word : Reserved → Reader Place
word r = expected (kind.Reserved r)

abbrev pub symbol : Symbol → Reader Place
symbol s = expected (kind.Symbol s)

abbrev pub name_by : Token → TokenKind → Reader Name
name_by t (kind.Name label) = λ rest. read (record { label = label; place = t.place }) rest
name_by t k = λ rest. stopped (t ∷ rest)

-- a name, and its place
abbrev pub name : Reader Name
name [] = stopped []
name (t ∷ ts) = name_by t t.kind ts

-- the kind of the first token, which is not taken
abbrev pub peek : Reader TokenKind
peek [] = stopped []
peek (t ∷ ts) = read t.kind (t ∷ ts)

-- the reader that belongs to the first token's kind
abbrev pub by_kind : {A : Type 0} → (TokenKind → Reader A) → Reader A
by_kind reader = peek >>= reader

-- the place of the first token, which is taken whatever it is
abbrev pub taken : Reader Place
taken [] = stopped []
taken (t ∷ ts) = read t.place ts

-- ---- parts that may be absent, and lists of parts

-- a part that begins with this token, where that comes next
abbrev pub optional : {A : Type 0} → TokenKind → Reader A → Reader (Option A)
optional k r tokens = if begins (is_kind k) tokens then (Some <$> r) tokens else read None tokens

-- parts while the first token passes the test, of which there are no more than the number
unfoldable pub many_within : {A : Type 0} → ℕ → (TokenKind → Bool) → Reader A → Reader (List A)
many_within zero test r tokens = read [] tokens
many_within (suc n) test r tokens =
    if begins test tokens then (do part ← r; parts ← many_within n test r; pure (part ∷ parts)) tokens
    else read [] tokens

-- Parts while the first token passes the test. Each part takes a token, so their number is enough.
unfoldable pub many : {A : Type 0} → (TokenKind → Bool) → Reader A → Reader (List A)
many test r tokens = many_within (length tokens) test r tokens

-- parts that each begin with this token
abbrev pub many_from : {A : Type 0} → TokenKind → Reader A → Reader (List A)
many_from k r = many (is_kind k) r

-- parts up to this token, which is not taken
abbrev pub many_until : {A : Type 0} → TokenKind → Reader A → Reader (List A)
many_until k r = many (is_other k) r

-- a part behind this token
abbrev pub behind : {A : Type 0} → TokenKind → Reader A → Reader A
behind k r = expected k >> r

-- parts that each stand behind this token
abbrev pub each_after : {A : Type 0} → TokenKind → Reader A → Reader (List A)
each_after k r = many (is_kind k) (behind k r)

-- ---- brackets

-- this bracket is one too many
abbrev pub blocked : {A : Type 0} → Symbol → Reader A
blocked bracket tokens =
    if begins (is_kind (kind.Symbol bracket)) tokens then too_deep tokens else stopped tokens

-- an opening bracket, where so many may still be opened
abbrev pub opening : ℕ → Symbol → Reader Place
opening zero bracket = blocked bracket
opening (suc levels) bracket = symbol bracket
