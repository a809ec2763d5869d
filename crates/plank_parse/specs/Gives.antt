-- What the functions that read promise: what the reader finds, unless memory is refused.
use Rattle.std.specs.Prelude.{◌≡◌, List, Result, Ok, Err}
use denote.Ref.{Bor}
use Rattle.plank_lex.specs.declared.tokens.Token.{Token}
use Rattle.plank_lex.specs.declared.tokens.TokenKind.{TokenKind}
use Rattle.plank_parse.specs.declared.stops.Stop.{Stop}
use Rattle.plank_parse.specs.declared.stops.Stop.TheVariants as stop
use Rattle.plank_parse.specs.Readers.{Found, read, stopped, too_deep, peek}

abbrev pub Stops : {A : Type 0} → Stop → Found A → Type 0
Stops (stop.Unexpected tokens) found = found ≡ stopped tokens.now
Stops (stop.TooDeep tokens) found = found ≡ too_deep tokens.now
Stops stop.OutOfMemory found = Unit {0}

abbrev pub Gives : {A : Type 0} → Result (A × Bor (List Token)) Stop → Found A → Type 0
Gives (Ok x) found = found ≡ read x.0 x.1.now
Gives (Err s) found = Stops s found

-- the first token's kind, and nothing taken
abbrev pub Peeks : Result (Bor TokenKind) Stop → List Token → Type 0
Peeks (Ok k) tokens = peek tokens ≡ read k.now tokens
Peeks (Err s) tokens = Stops s (peek tokens)

-- the same of a part that the function returns in pieces
abbrev pub GivesBy : {A B : Type 0} → (A → B) → Result (A × Bor (List Token)) Stop → Found B → Type 0
GivesBy whole (Ok x) found = found ≡ read (whole x.0) x.1.now
GivesBy whole (Err s) found = Stops s found
