use Rattle.std.proofs.Common.{◌≡◌, List, [], ap, sym, ◌∙◌}
use Rattle.plank_parse.specs.Readers.{read}
use Rattle.plank_parse.specs.Texts.{Parts, parts_of, reading_of}
use Rattle.plank_lex.specs.declared.tokens.Token.{Token}
use Rattle.plank_ast.specs.declared.texts.Text.{Text}
use Rattle.plank_parse.proofs.PlacedTexts.{kept_places}
use Rattle.plank_parse.proofs.Whole.{all_read, lawful_parts, stops_at, deep_at}
use Rattle.plank_parse.proofs.Promises.{found_text, stops_unexpected, stops_deep, no_text_unexpected, no_text_deep}
use Rattle.plank_parse.proofs.reader.parse.Goals as goal

read_whole : (tokens : List Token) (t : Text) (p : Parts) (rest : List Token) → reading_of tokens ≡ read p rest → rest ≡ [] → parts_of t ≡ p → reading_of tokens ≡ read (parts_of t) []
read_whole tokens t p rest found all same = found ∙ (ap (λ (ts : List Token). read p ts) all ∙ ap (λ (q : Parts). read q []) (sym same))

pub assembled-requires : goal.assembled-requires
unfolding reading_of
assembled-requires c = lawful_parts c.args.tokens.now _ _ c.requires c.in-Ok.ensures

pub first_place-requires : goal.first_place-requires
unfolding reading_of
first_place-requires c =
    stops_at c.args.tokens.now _ c.requires (rw c.in-Err-Unexpected.field-0-is at c.in-Err-Unexpected.ensures)

pub first_place-requires-in-Err-TooDeep : goal.first_place-requires-in-Err-TooDeep
unfolding reading_of
first_place-requires-in-Err-TooDeep c =
    deep_at c.args.tokens.now _ c.requires (rw c.in-Err-TooDeep.field-0-is at c.in-Err-TooDeep.ensures)

pub returns-in-Ok-clause-exact : goal.returns-in-Ok-clause-exact
unfolding reading_of
returns-in-Ok-clause-exact c =
    read_whole c.args.tokens.now c.assembled.result _ _ c.in-Ok.ensures (all_read c.args.tokens.now _ _ c.requires c.in-Ok.ensures) c.assembled.ensures

pub returns-in-Ok-clause-found : goal.returns-in-Ok-clause-found
unfolding reading_of
returns-in-Ok-clause-found c = found_text c.args.tokens.now c.assembled.result _ _ c.requires c.in-Ok.ensures c.assembled.ensures

pub returns-in-Ok-clause-placed : goal.returns-in-Ok-clause-placed
unfolding reading_of
returns-in-Ok-clause-placed c =
    kept_places c.args.tokens.now _
    (read_whole c.args.tokens.now c.assembled.result _ _ c.in-Ok.ensures (all_read c.args.tokens.now _ _ c.requires c.in-Ok.ensures) c.assembled.ensures)

pub returns-in-Err-Unexpected-clause-refused : goal.returns-in-Err-Unexpected-clause-refused
unfolding reading_of
returns-in-Err-Unexpected-clause-refused c =
    stops_unexpected c.args.tokens.now _ _ (rw c.in-Err-Unexpected.field-0-is at c.in-Err-Unexpected.ensures) c.first_place.ensures

pub returns-in-Err-Unexpected-clause-only : goal.returns-in-Err-Unexpected-clause-only
unfolding reading_of
returns-in-Err-Unexpected-clause-only c =
    no_text_unexpected c.args.tokens.now _
    (stops_unexpected c.args.tokens.now _ _ (rw c.in-Err-Unexpected.field-0-is at c.in-Err-Unexpected.ensures) c.first_place.ensures)

pub returns-in-Err-TooDeep-clause-refused : goal.returns-in-Err-TooDeep-clause-refused
unfolding reading_of
returns-in-Err-TooDeep-clause-refused c =
    stops_deep c.args.tokens.now _ _ (rw c.in-Err-TooDeep.field-0-is at c.in-Err-TooDeep.ensures) c.first_place-in-Err-TooDeep.ensures

pub returns-in-Err-TooDeep-clause-only : goal.returns-in-Err-TooDeep-clause-only
unfolding reading_of
returns-in-Err-TooDeep-clause-only c =
    no_text_deep c.args.tokens.now _
    (stops_deep c.args.tokens.now _ _ (rw c.in-Err-TooDeep.field-0-is at c.in-Err-TooDeep.ensures) c.first_place-in-Err-TooDeep.ensures)
