-- The canonical form of tokens is read as these tokens, where `!` is kept apart: each token is a part, and
-- each blank and line feed is one.
use Rattle.std.proofs.Common.{◌≡◌, ℕ, zero, suc, true, false, not, ◌&&◌, cond, List, [], ◌∷◌, ◌++◌, refl, sym, ap, ◌∙◌, subst, inl, append_assoc, append-nil}
use Rattle.std.specs.List.{list_all}
use Rattle.std.specs.Cmp.{first_so, second_so}
use Rattle.std.proofs.lemmas.List.{map-append}
use Rattle.plank_base.specs.declared.places.Place.{Place}
use Rattle.plank_lex.specs.Bytes.{is_separator}
use Rattle.plank_lex.specs.Places.{start, place_after}
use Rattle.plank_lex.specs.Tokens.{end_at, kinds_of}
use Rattle.plank_lex.specs.Parts.{Part, gap, token, text_of, EndsBefore, Spells, IsPart, AreParts, tokens_at}
use Rattle.plank_lex.proofs.Cuts.{cut_tokens}
use Rattle.plank_lex.specs.declared.tokens.Token.{Token}
use Rattle.plank_lex.specs.declared.tokens.TokenKind.{TokenKind}
use Rattle.plank_lex.specs.declared.tokens.TokenKind.TheVariants as kind
use Rattle.plank_ast.specs.Spelling.{Spelling, may_stand}
use Rattle.plank_ast.specs.Layout.{token_bytes, breaks_line, joins, blanks, indent_levels, between, braces_after, layout_after, layout}
use Rattle.plank_ast.specs.Prints.{ReadsAs}
use Rattle.plank_ast.proofs.Apart.{begins_equal, is_not, keeps_apart}
use Rattle.plank_ast.proofs.Followed.{goes_on, token_spelled, blank_stops, joined_stops}

-- ---- the parts

-- each byte as a gap
abbrev gaps : List ℕ → List Part
gaps [] = []
gaps (b ∷ bytes) = gap (b ∷ []) ∷ gaps bytes

-- the parts of what stands after a token
abbrev parts_after : ℕ → TokenKind → Spelling → List Part
parts_after depth k [] = gap (10 ∷ []) ∷ []
parts_after depth k (next ∷ ks) =
    gaps (between depth k next) ++ token next (token_bytes next) ∷ parts_after (braces_after depth next) next ks

abbrev layout_parts : Spelling → List Part
layout_parts [] = []
layout_parts (k ∷ ks) = token k (token_bytes k) ∷ parts_after (braces_after 0 k) k ks

text_of-gaps : (bytes : List ℕ) (parts : List Part) → text_of (gaps bytes ++ parts) ≡ bytes ++ text_of parts
text_of-gaps [] parts = refl
text_of-gaps (b ∷ bytes) parts = ap (λ rest. b ∷ rest) (text_of-gaps bytes parts)

text_of-parts_after : (depth : ℕ) (k : TokenKind) (ks : Spelling) → text_of (parts_after depth k ks) ≡ layout_after depth k ks
text_of-parts_after depth k [] = refl
text_of-parts_after depth k (next ∷ ks) =
    let more = braces_after depth next in
    text_of-gaps (between depth k next) (token next (token_bytes next) ∷ parts_after more next ks)
    ∙ ap (λ rest. between depth k next ++ (token_bytes next ++ rest)) (text_of-parts_after more next ks)
    ∙ sym (append_assoc (between depth k next) (token_bytes next) (layout_after more next ks))

text_of-layout_parts : (ks : Spelling) → text_of (layout_parts ks) ≡ layout ks
text_of-layout_parts [] = refl
text_of-layout_parts (k ∷ ks) = ap (λ rest. token_bytes k ++ rest) (text_of-parts_after (braces_after 0 k) k ks)

-- ---- each is a part

blanks_separate : (levels : ℕ) → list_all is_separator (blanks levels) ≡ true
blanks_separate zero = refl
blanks_separate (suc levels) = blanks_separate levels

between_separates : (depth : ℕ) (k next : TokenKind) → list_all is_separator (between depth k next) ≡ true
between_separates depth k next =
    elim (breaks_line k next) as (λ b. list_all is_separator (cond b (10 ∷ blanks (indent_levels depth next)) (cond (joins k next) [] (32 ∷ []))) ≡ true) [
      | true ↦ blanks_separate (indent_levels depth next)
      | false ↦ elim (joins k next) as (λ b. list_all is_separator (cond b [] (32 ∷ [])) ≡ true) [ true ↦ refl | false ↦ refl ]
    ]

gaps_are_parts : (bytes : List ℕ) (parts : List Part) → list_all is_separator bytes ≡ true → AreParts parts [] → AreParts (gaps bytes ++ parts) []
gaps_are_parts [] parts h each = each
gaps_are_parts (b ∷ bytes) parts h each = (
  inl (record { byte = b; alone = refl; separates = first_so (is_separator b) (list_all is_separator bytes) h }),
  gaps_are_parts bytes parts (second_so (is_separator b) (list_all is_separator bytes) h) each,
)

-- a token ends before what stands after it
after_stops : (depth : ℕ) (k : TokenKind) (ks : Spelling) → list_all may_stand ks ≡ true → keeps_apart (is_not k) ks ≡ true → EndsBefore (goes_on k) (layout_after depth k ks)
after_stops depth k [] stand apart = blank_stops k 10 refl refl
after_stops depth k (next ∷ ks) stand apart =
    let stands = first_so (may_stand next) (list_all may_stand ks) stand in
    let distinct = first_so (not (is_not k && begins_equal next)) (keeps_apart (is_not next) ks) apart in
    let more = layout_after (braces_after depth next) next ks in
    elim (breaks_line k next) as (λ b. EndsBefore (goes_on k) (cond b (10 ∷ blanks (indent_levels depth next)) (cond (joins k next) [] (32 ∷ [])) ++ token_bytes next ++ more)) [
      | true ↦ blank_stops k 10 refl refl
      | false ↦ elim (joins k next) as (λ b. joins k next ≡ b → EndsBefore (goes_on k) (cond b [] (32 ∷ []) ++ token_bytes next ++ more)) [
        | true ↦ λ e. joined_stops k next more stands distinct e
        | false ↦ λ e. blank_stops k 32 refl refl
      ] refl
    ]

token_is_part : (depth : ℕ) (k : TokenKind) (ks : Spelling) → may_stand k ≡ true → list_all may_stand ks ≡ true → keeps_apart (is_not k) ks ≡ true → IsPart (token k (token_bytes k)) (text_of (parts_after depth k ks) ++ [])
token_is_part depth k ks stands stand apart =
    subst (λ (rest : List ℕ). Spells k (token_bytes k) rest) (sym (append-nil (text_of (parts_after depth k ks)) ∙ text_of-parts_after depth k ks))
    (token_spelled k (layout_after depth k ks) stands (after_stops depth k ks stand apart))

parts_after_are_parts : (depth : ℕ) (k : TokenKind) (ks : Spelling) → list_all may_stand ks ≡ true → keeps_apart (is_not k) ks ≡ true → AreParts (parts_after depth k ks) []
parts_after_are_parts depth k [] stand apart = (inl (record { byte = 10; alone = refl; separates = refl }), tt)
parts_after_are_parts depth k (next ∷ ks) stand apart =
    let stands = first_so (may_stand next) (list_all may_stand ks) stand in
    let rest_stand = second_so (may_stand next) (list_all may_stand ks) stand in
    let rest_apart = second_so (not (is_not k && begins_equal next)) (keeps_apart (is_not next) ks) apart in
    let more = braces_after depth next in
    gaps_are_parts (between depth k next) (token next (token_bytes next) ∷ parts_after more next ks) (between_separates depth k next)
    (token_is_part more next ks stands rest_stand rest_apart, parts_after_are_parts more next ks rest_stand rest_apart)

layout_parts_are_parts : (ks : Spelling) → list_all may_stand ks ≡ true → keeps_apart false ks ≡ true → AreParts (layout_parts ks) []
layout_parts_are_parts [] stand apart = tt
layout_parts_are_parts (k ∷ ks) stand apart =
    let stands = first_so (may_stand k) (list_all may_stand ks) stand in
    let rest_stand = second_so (may_stand k) (list_all may_stand ks) stand in
    (token_is_part (braces_after 0 k) k ks stands rest_stand apart, parts_after_are_parts (braces_after 0 k) k ks rest_stand apart)

-- ---- their tokens

tokens_at-gaps : (p : Place) (bytes : List ℕ) (parts : List Part) → tokens_at p (gaps bytes ++ parts) ≡ tokens_at (place_after p bytes) parts
tokens_at-gaps p [] parts = refl
tokens_at-gaps p (b ∷ bytes) parts = tokens_at-gaps (place_after p (b ∷ [])) bytes parts

kinds_after : (p : Place) (depth : ℕ) (k : TokenKind) (ks : Spelling) → kinds_of (tokens_at p (parts_after depth k ks)) ≡ ks
kinds_after p depth k [] = refl
kinds_after p depth k (next ∷ ks) =
    let more = braces_after depth next in
    ap kinds_of (tokens_at-gaps p (between depth k next) (token next (token_bytes next) ∷ parts_after more next ks))
    ∙ ap (λ rest. next ∷ rest) (kinds_after (place_after (place_after p (between depth k next)) (token_bytes next)) more next ks)

kinds_of_layout : (p : Place) (ks : Spelling) → kinds_of (tokens_at p (layout_parts ks)) ≡ ks
kinds_of_layout p [] = refl
kinds_of_layout p (k ∷ ks) = ap (λ rest. k ∷ rest) (kinds_after (place_after p (token_bytes k)) (braces_after 0 k) k ks)

-- the canonical form of tokens is read as these tokens and the end
pub layout_reads : (ks : Spelling) → list_all may_stand ks ≡ true → keeps_apart false ks ≡ true → ReadsAs (layout ks) ks
layout_reads ks stand apart =
    let parts = layout_parts ks in
    let end = end_at (place_after start (layout ks)) in
    let tokens = tokens_at start parts ++ end ∷ [] in
    record {
      tokens = tokens;
      read = cut_tokens (layout ks) tokens (record { parts = parts; whole = text_of-layout_parts ks; each = layout_parts_are_parts ks stand apart; listed = refl });
      kinds = map-append (λ (t : Token). t.kind) (tokens_at start parts) (end ∷ []) ∙ ap (λ front. front ++ kind.End ∷ []) (kinds_of_layout start ks);
    }
