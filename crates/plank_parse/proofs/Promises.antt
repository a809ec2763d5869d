-- What `parse` promises of the grammar, from what is read.
use Rattle.std.proofs.Common.{◌≡◌, ℕ, true, List, [], ◌∷◌, ◌++◌, refl, sym, ap, append_assoc, ◌∙◌}
use Rattle.std.specs.Prelude.{nat_le}
use Rattle.std.proofs.lemmas.Bool.{true≢false, and_parts, and_from}
use Rattle.plank_base.specs.declared.places.Place.{Place}
use Rattle.plank_base.specs.declared.limits.TheConstants.{NESTING_LIMIT}
use Rattle.plank_lex.specs.Tokens.{IsTokenList, kinds_of}
use Rattle.plank_lex.specs.declared.tokens.Token.{Token}
use Rattle.plank_lex.specs.declared.tokens.TokenKind.TheVariants as kind
use Rattle.plank_ast.specs.declared.texts.Text.{Text}
use Rattle.plank_ast.specs.Spelling.{Spelling, may_stand, open_after, nests_within}
use Rattle.plank_ast.specs.Texts.{text_tokens}
use Rattle.std.specs.List.{list_all}
use Rattle.plank_parse.specs.Readers.{read, stopped, too_deep}
use Rattle.plank_parse.specs.Texts.{Parts, parts_of, parts_spelling, reading_of}
use Rattle.plank_parse.specs.Outcomes.{StandsAt}
use Rattle.plank_parse.specs.Grammar.{IsUnexpected, IsTooDeep, Spells}
use Rattle.plank_parse.proofs.Follows.{kinds_append}
use Rattle.plank_parse.proofs.Whole.{spelled_parts}
use Rattle.plank_parse.proofs.Refused.{unexpected, deep}

pub found_text : (tokens : List Token) (t : Text) (p : Parts) (rest : List Token) → IsTokenList tokens → reading_of tokens ≡ read p rest → parts_of t ≡ p → Spells tokens t
found_text tokens t p rest kept found e = spelled_parts tokens p rest kept found ∙ ap (λ (q : Parts). parts_spelling q ++ kind.End ∷ []) (sym e)

pub stops_unexpected : (tokens rest : List Token) (p : Place) → reading_of tokens ≡ stopped rest → StandsAt p rest → IsUnexpected tokens p
stops_unexpected tokens [] p found at = absurd at
stops_unexpected tokens (t ∷ rest) p found at = unexpected tokens t rest p found at

pub stops_deep : (tokens rest : List Token) (p : Place) → reading_of tokens ≡ too_deep rest → StandsAt p rest → IsTooDeep tokens p
stops_deep tokens [] p found at = absurd at
stops_deep tokens (t ∷ rest) p found at = deep tokens t rest p found at

-- ---- the tokens of a text are read

pub no_text_unexpected : (tokens : List Token) (p : Place) → IsUnexpected tokens p → (t : Text) → Spells tokens t → ⊥
no_text_unexpected tokens p u t e = u.fails (parts_of t, kinds_of u.rest, append_assoc (kinds_of u.front) (u.token.kind ∷ []) (kinds_of u.rest) ∙ (sym (kinds_append u.front (u.token ∷ u.rest)) ∙ (sym (ap kinds_of u.split) ∙ e)))

-- the front of tokens that nest within the limit does
nests_front : (limit d : ℕ) (a b : Spelling) → nests_within limit d (a ++ b) ≡ true → nests_within limit d a ≡ true
nests_front limit d [] b e = refl
nests_front limit d (k ∷ a) b e = and_from _ _ (and_parts (nat_le (open_after d k) limit) (nests_within limit (open_after d k) (a ++ b)) e).0 (nests_front limit (open_after d k) a b (and_parts (nat_le (open_after d k) limit) (nests_within limit (open_after d k) (a ++ b)) e).1)

-- the end opens no bracket
nests_with_end : (limit d : ℕ) (a : Spelling) → nat_le d limit ≡ true → nests_within limit d a ≡ true → nests_within limit d (a ++ kind.End ∷ []) ≡ true
nests_with_end limit d [] h e = and_from _ _ h refl
nests_with_end limit d (k ∷ a) h e =
    and_from _ _ (and_parts (nat_le (open_after d k) limit) (nests_within limit (open_after d k) a) e).0
    (nests_with_end limit (open_after d k) a (and_parts (nat_le (open_after d k) limit) (nests_within limit (open_after d k) a) e).0 (and_parts (nat_le (open_after d k) limit) (nests_within limit (open_after d k) a) e).1)

pub no_text_deep : (tokens : List Token) (p : Place) → IsTooDeep tokens p → (t : Text) → Spells tokens t → ⊥
no_text_deep tokens p u t e = true≢false (sym nests ∙ u.deeper)
  where
    lawful : nests_within NESTING_LIMIT 0 (text_tokens t) ≡ true
    lawful = (and_parts (list_all may_stand (text_tokens t)) (nests_within NESTING_LIMIT 0 (text_tokens t)) t.lawful).1

    same : (kinds_of u.front ++ u.token.kind ∷ []) ++ kinds_of u.rest ≡ text_tokens t ++ kind.End ∷ []
    same = append_assoc (kinds_of u.front) (u.token.kind ∷ []) (kinds_of u.rest) ∙ (sym (kinds_append u.front (u.token ∷ u.rest)) ∙ (sym (ap kinds_of u.split) ∙ e))

    nests : nests_within NESTING_LIMIT 0 (kinds_of u.front ++ u.token.kind ∷ []) ≡ true
    nests = nests_front NESTING_LIMIT 0 (kinds_of u.front ++ u.token.kind ∷ []) (kinds_of u.rest) (ap (nests_within NESTING_LIMIT 0) same ∙ nests_with_end NESTING_LIMIT 0 (text_tokens t) refl lawful)
