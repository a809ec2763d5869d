-- The tokens of a text are those of its parts, and a text without tokens is parts up to its bad byte.
use Rattle.std.proofs.Common.{◌≡◌, ℕ, zero, suc, ◌≤◌, List, [], ◌∷◌, ◌++◌, length, take, drop, refl, ap, ◌∙◌, sym, subst, arith, append_assoc, Option, Some, None, Result, Ok, Err, length-drop, append-nil}
use Rattle.std.proofs.lemmas.List.{take-append-drop, length-take-le, take_at, drop_at}
use Rattle.std.proofs.lemmas.List.Sums.{fold-append}
use Rattle.plank_base.specs.declared.places.Place.{Place}
use Rattle.plank_lex.specs.Places.{start, after, place_after}
use Rattle.plank_lex.specs.Lexemes.{lexeme_of, lexeme_as}
use Rattle.plank_lex.specs.Tokens.{tokens_of, tokens_from, tokens_in, end_at}
use Rattle.plank_lex.specs.Parts.{Part, gap, token, bytes_of, text_of, IsPart, AreParts, tokens_at, IsCut, IsCutUpTo, BeginsNothing}
use Rattle.plank_lex.proofs.Standing.{part_of}
use Rattle.plank_lex.proofs.Found.{part_found, lexeme_in}
use Rattle.plank_lex.proofs.Reading.{continued, continued_none, continued-append, found_stands, reading_goes, reading_stops}
use Rattle.plank_lex.specs.declared.lexemes.Lexeme.{Lexeme}
use Rattle.plank_lex.specs.declared.lexemes.LexemeKind.{LexemeKind}
use Rattle.plank_lex.specs.declared.lexemes.LexemeKind.TheVariants as lexeme
use Rattle.plank_lex.specs.declared.tokens.Token.{Token}
use Rattle.plank_lex.specs.declared.tokens.TokenKind.TheVariants as kind

-- bytes begin nothing exactly where no lexeme is found
begins_nothing : (bytes : List ℕ) → lexeme_of bytes ≡ None → BeginsNothing bytes
begins_nothing bytes none part rest e h =
    let found = part_found part rest h in
    let here = ap lexeme_of e in
    absurd cc

bytes_of-part_of : (k : LexemeKind) (bytes : List ℕ) → bytes_of (part_of k bytes) ≡ bytes
bytes_of-part_of lexeme.Gap bytes = refl
bytes_of-part_of (lexeme.Symbol s) bytes = refl
bytes_of-part_of (lexeme.Reserved r) bytes = refl
bytes_of-part_of lexeme.Name bytes = refl

no_lexeme_by : (bytes : List ℕ) → BeginsNothing bytes → (o : Option Lexeme) → lexeme_of bytes ≡ o → o ≡ None
no_lexeme_by bytes nothing None e = refl
no_lexeme_by bytes nothing (Some found) e =
    let stands = found_stands bytes found e in
    let n = found.length in
    absurd (nothing (part_of found.kind (take n bytes)) (drop n bytes) (ap (λ front. front ++ drop n bytes) (bytes_of-part_of found.kind (take n bytes)) ∙ take-append-drop n bytes) stands.part)

no_lexeme : (bytes : List ℕ) → BeginsNothing bytes → lexeme_of bytes ≡ None
no_lexeme bytes nothing = no_lexeme_by bytes nothing (lexeme_of bytes) refl

-- the tokens of one part
tokens_of_part : (p : Place) (part : Part) (parts : List Part) → (rest : List ℕ) → IsPart part rest → tokens_at p (part ∷ parts) ≡ tokens_in p (bytes_of part ++ rest) (lexeme_in part) ++ tokens_at (place_after p (bytes_of part)) parts
tokens_of_part p (gap bytes) parts rest h = refl
tokens_of_part p (token (kind.Symbol s) bytes) parts rest h = refl
tokens_of_part p (token (kind.Reserved r) bytes) parts rest h = refl
tokens_of_part p (token (kind.Name label) bytes) parts rest h =
    ap (λ name. (record { kind = kind.Name name; place = p; length = length bytes }) ∷ tokens_at (place_after p bytes) parts) (sym h.0 ∙ sym (take_at bytes rest (length bytes) refl))
tokens_of_part p (token kind.End bytes) parts rest h = absurd h

-- parts are read as their tokens, and the reading goes on after them
pub parts_read : (p : Place) (parts : List Part) (rest : List ℕ) → AreParts parts rest → tokens_from 0 p (text_of parts ++ rest) ≡ continued (tokens_at p parts) (tokens_from 0 (place_after p (text_of parts)) rest)
parts_read p [] rest each = sym (continued_none (tokens_from 0 p rest))
parts_read p (part ∷ parts) rest each =
    let bytes = bytes_of part in
    let more = text_of parts ++ rest in
    let q = place_after p bytes in
    ap (tokens_from 0 p) (append_assoc bytes (text_of parts) rest)
    ∙ reading_goes p (bytes ++ more) (lexeme_in part) (part_found part more each.0)
    ∙ ap (λ front. continued (tokens_in p (bytes ++ more) (lexeme_in part)) (tokens_from 0 (place_after p front) (drop (length bytes) (bytes ++ more)))) (take_at bytes more (length bytes) refl)
    ∙ ap (λ left. continued (tokens_in p (bytes ++ more) (lexeme_in part)) (tokens_from 0 q left)) (drop_at bytes more (length bytes) refl)
    ∙ ap (continued (tokens_in p (bytes ++ more) (lexeme_in part))) (parts_read q parts rest each.1)
    ∙ sym (continued-append (tokens_in p (bytes ++ more) (lexeme_in part)) (tokens_at q parts) (tokens_from 0 (place_after q (text_of parts)) rest))
    ∙ ap (λ tokens. continued tokens (tokens_from 0 (place_after q (text_of parts)) rest)) (sym (tokens_of_part p part parts more each.0))
    ∙ ap (λ end. continued (tokens_at p (part ∷ parts)) (tokens_from 0 end rest)) (sym (fold-append after p bytes (text_of parts)))

-- what a reading from p on says of the text
abbrev pub IsReadingOf : Place → List ℕ → Result (List Token) Place → Type 0
IsReadingOf p text (Ok tokens) = IsCut p text tokens
IsReadingOf p text (Err q) = IsCutUpTo p text q

-- the tokens of the lexeme at the front
tokens_of_lexeme : (p : Place) (text : List ℕ) (k : LexemeKind) (n : ℕ) (parts : List Part) → length (take n text) ≡ n → tokens_at p (part_of k (take n text) ∷ parts) ≡ tokens_in p text (lexeme_as k n) ++ tokens_at (place_after p (take n text)) parts
tokens_of_lexeme p text lexeme.Gap n parts size = refl
tokens_of_lexeme p text (lexeme.Symbol s) n parts size = ap (λ m. (record { kind = kind.Symbol s; place = p; length = m }) ∷ tokens_at (place_after p (take n text)) parts) size
tokens_of_lexeme p text (lexeme.Reserved r) n parts size = ap (λ m. (record { kind = kind.Reserved r; place = p; length = m }) ∷ tokens_at (place_after p (take n text)) parts) size
tokens_of_lexeme p text lexeme.Name n parts size = ap (λ m. (record { kind = kind.Name (take n text); place = p; length = m }) ∷ tokens_at (place_after p (take n text)) parts) size

-- one part more in front
goes_on : (p : Place) (text : List ℕ) (found : Lexeme) → lexeme_of text ≡ Some found → (reading : Result (List Token) Place) → IsReadingOf (place_after p (take found.length text)) (drop found.length text) reading → IsReadingOf p text (continued (tokens_in p text found) reading)
goes_on p text found h (Ok tokens) cut =
    let stands = found_stands text found h in
    let n = found.length in
    let front = take n text in
    let part = part_of found.kind front in
    let spelled = bytes_of-part_of found.kind front in
    let whole = take-append-drop n text in
    let end = sym (fold-append after p front (drop n text)) ∙ ap (place_after p) whole in
    record {
      parts = part ∷ cut.parts;
      whole = ap (λ bytes. bytes ++ text_of cut.parts) spelled ∙ ap (λ left. front ++ left) cut.whole ∙ whole;
      each = (subst (IsPart part) (sym (append-nil (text_of cut.parts) ∙ cut.whole)) stands.part, cut.each);
      listed = ap (λ more. tokens_in p text found ++ more) cut.listed
          ∙ sym (append_assoc (tokens_in p text found) (tokens_at (place_after p front) cut.parts) (end_at (place_after (place_after p front) (drop n text)) ∷ []))
          ∙ ap (λ tokens. tokens ++ end_at (place_after (place_after p front) (drop n text)) ∷ []) (sym (tokens_of_lexeme p text found.kind n cut.parts (length-take-le n text stands.within)))
          ∙ ap (λ q. tokens_at p (part ∷ cut.parts) ++ end_at q ∷ []) end;
    }
goes_on p text found h (Err q) cut =
    let stands = found_stands text found h in
    let n = found.length in
    let front = take n text in
    let part = part_of found.kind front in
    let spelled = bytes_of-part_of found.kind front in
    record {
      parts = part ∷ cut.parts;
      rest = cut.rest;
      whole = append_assoc (bytes_of part) (text_of cut.parts) cut.rest ∙ ap (λ bytes. bytes ++ (text_of cut.parts ++ cut.rest)) spelled ∙ ap (λ left. front ++ left) cut.whole ∙ take-append-drop n text;
      each = (subst (IsPart part) (sym cut.whole) stands.part, cut.each);
      left = cut.left;
      stops = cut.stops;
      place = cut.place ∙ sym (fold-append after p front (text_of cut.parts)) ∙ ap (λ bytes. place_after p (bytes ++ text_of cut.parts)) (sym spelled);
    }

reading_is : (fuel : ℕ) (p : Place) (text : List ℕ) → length text ≤ fuel → (o : Option Lexeme) → lexeme_of text ≡ o → IsReadingOf p text (tokens_from 0 p text)
reading_is fuel p [] short o e = record { parts = []; whole = refl; each = tt; listed = refl }
reading_is zero p (b ∷ bs) short o e = absurd (omega arith)
reading_is (suc fuel) p (b ∷ bs) short None e =
    rw (reading_stops p (b ∷ bs) (omega arith) e) (record { parts = []; rest = b ∷ bs; whole = refl; each = tt; left = omega arith; stops = begins_nothing (b ∷ bs) e; place = refl })
reading_is (suc fuel) p (b ∷ bs) short (Some found) e =
    let text = b ∷ bs in
    let n = found.length in
    let stands = found_stands text found e in
    let less : length (drop n text) ≤ fuel = omega (arith, length-drop n text, stands.some) in
    rw (reading_goes p text found e) (goes_on p text found e _ (reading_is fuel (place_after p (take n text)) (drop n text) less (lexeme_of (drop n text)) refl))

pub tokens_cut : (text : List ℕ) (tokens : List Token) → tokens_of text ≡ Ok tokens → IsCut start text tokens
unfolding tokens_of
tokens_cut text tokens e = subst (IsReadingOf start text) e (reading_is (length text) start text (omega arith) (lexeme_of text) refl)

pub fault_cut : (text : List ℕ) (p : Place) → tokens_of text ≡ Err p → IsCutUpTo start text p
unfolding tokens_of
fault_cut text p e = subst (IsReadingOf start text) e (reading_is (length text) start text (omega arith) (lexeme_of text) refl)

pub cut_tokens : (text : List ℕ) (tokens : List Token) → IsCut start text tokens → tokens_of text ≡ Ok tokens
unfolding tokens_of
cut_tokens text tokens cut =
    ap (tokens_from 0 start) (sym (append-nil (text_of cut.parts) ∙ cut.whole))
    ∙ parts_read start cut.parts [] cut.each
    ∙ ap (λ bytes. Ok (tokens_at start cut.parts ++ end_at (place_after start bytes) ∷ [])) cut.whole
    ∙ ap (λ listed. Ok listed) (sym cut.listed)

pub cut_fault : (text : List ℕ) (p : Place) → IsCutUpTo start text p → tokens_of text ≡ Err p
unfolding tokens_of
cut_fault text p cut =
    ap (tokens_from 0 start) (sym cut.whole)
    ∙ parts_read start cut.parts cut.rest cut.each
    ∙ ap (continued (tokens_at start cut.parts)) (reading_stops (place_after start (text_of cut.parts)) cut.rest cut.left (no_lexeme cut.rest cut.stops))
    ∙ ap (λ q. Err q) (sym cut.place)
