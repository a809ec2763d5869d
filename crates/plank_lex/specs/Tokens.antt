-- The tokens of a text, and what every list of tokens keeps.
use Rattle.std.specs.Prelude.{◌≡◌, ◌≢◌, ℕ, zero, suc, ◌-◌, true, List, [], ◌∷◌, ◌++◌, take, map, Option, Some, None, Result, Ok, Err}
use Rattle.std.specs.Option.{option_to_list}
use Rattle.std.specs.List.{AllByRecursion}
use Rattle.plank_base.specs.declared.places.Place.{Place}
use Rattle.plank_lex.specs.Spelling.{is_name}
use Rattle.plank_lex.specs.Places.{start, after, IsBefore}
use Rattle.plank_lex.specs.Lexemes.{lexeme_of}
use Rattle.plank_lex.specs.declared.faults.LexFault.{LexFault}
use Rattle.plank_lex.specs.declared.faults.LexFault.TheVariants as fault
use Rattle.plank_lex.specs.declared.lexemes.Lexeme.{Lexeme}
use Rattle.plank_lex.specs.declared.lexemes.LexemeKind.{LexemeKind}
use Rattle.plank_lex.specs.declared.lexemes.LexemeKind.TheVariants as lexeme
use Rattle.plank_lex.specs.declared.tokens.Token.{Token}
use Rattle.plank_lex.specs.declared.tokens.TokenKind.{TokenKind}
use Rattle.plank_lex.specs.declared.tokens.TokenKind.TheVariants as kind

-- the kind of token that a lexeme of these bytes is; a gap is none
abbrev pub token_kind_of : LexemeKind → List ℕ → Option TokenKind
token_kind_of lexeme.Gap bytes = None
token_kind_of (lexeme.Symbol s) bytes = Some (kind.Symbol s)
token_kind_of (lexeme.Reserved r) bytes = Some (kind.Reserved r)
token_kind_of lexeme.Name bytes = Some (kind.Name bytes)

-- the token at p that a lexeme at the front of the bytes is
abbrev pub tokens_in : Place → List ℕ → Lexeme → List Token
tokens_in p bytes found =
    map (λ k. record { kind = k; place = p; length = found.length }) (option_to_list (token_kind_of found.kind (take found.length bytes)))

abbrev pub end_at : Place → Token
end_at p = record { kind = kind.End; place = p; length = 0 }

abbrev pub length_of : Option Lexeme → ℕ
length_of None = 0
length_of (Some found) = found.length

-- what is read from p on: the lexeme at the front and then the rest, or the place where none is
abbrev pub joined : Place → List ℕ → Option Lexeme → Result (List Token) Place → Result (List Token) Place
joined p bytes None rest = Err p
joined p bytes (Some found) (Ok tokens) = Ok (tokens_in p bytes found ++ tokens)
joined p bytes (Some found) (Err q) = Err q

-- The tokens of the bytes from p on, or the place of the first byte that begins none. The number counts
-- the bytes that are left of a lexeme that began before p.
abbrev pub tokens_from : ℕ → Place → List ℕ → Result (List Token) Place
tokens_from left p [] = Ok (end_at p ∷ [])
tokens_from (suc left) p (b ∷ bs) = tokens_from left (after p b) bs
tokens_from zero p (b ∷ bs) =
    let found = lexeme_of (b ∷ bs) in joined p (b ∷ bs) found (tokens_from (length_of found - 1) (after p b) bs)

-- the tokens of a text, with one End at its end, or the place of its first byte that begins no token
unfoldable pub tokens_of : List ℕ → Result (List Token) Place
tokens_of text = tokens_from 0 start text

-- a fault has its cause: a bad byte where the text's reading ends at that place
abbrev pub IsFaultOf : Result (List Token) Place → LexFault → Type 0
IsFaultOf reading (fault.BadByte p) = reading ≡ Err p
IsFaultOf reading fault.OutOfMemory = Unit {0}

-- the kinds of tokens, of which alone the grammar speaks
abbrev pub kinds_of : List Token → List TokenKind
kinds_of tokens = map (λ t. t.kind) tokens

-- End is the last token and no other
abbrev pub EndsOnce : List Token → Type 0
EndsOnce [] = ⊥
EndsOnce (t ∷ []) = t.kind ≡ kind.End
EndsOnce (t ∷ u ∷ ts) = (t.kind ≢ kind.End) × EndsOnce (u ∷ ts)

-- the label of a name is a name
abbrev pub IsRightKind : TokenKind → Type 0
IsRightKind (kind.Symbol s) = Unit {0}
IsRightKind (kind.Reserved r) = Unit {0}
IsRightKind (kind.Name label) = is_name label ≡ true
IsRightKind kind.End = Unit {0}

-- each token stands before the next
abbrev pub PlacesRise : List Token → Type 0
PlacesRise [] = Unit {0}
PlacesRise (t ∷ []) = Unit {0}
PlacesRise (t ∷ u ∷ ts) = IsBefore t.place u.place × PlacesRise (u ∷ ts)

-- what every list of tokens of a text keeps
pub record IsTokenList (tokens : List Token) : Type 0 where
  pub ends_once : EndsOnce tokens
  pub names : AllByRecursion (λ t. IsRightKind t.kind) tokens
  pub places_rise : PlacesRise tokens
