-- The readers of the lines of a header follow the grammar.
use Rattle.std.proofs.Common.{◌≡◌, ℕ, suc, List, [], ◌∷◌, ◌++◌, refl}
use Rattle.std.specs.List.{flat_map}
use Rattle.plank_base.specs.declared.places.Place.{Place}
use Rattle.plank_lex.specs.Tokens.{kinds_of}
use Rattle.plank_lex.specs.declared.symbols.Symbol.TheVariants as symbol
use Rattle.plank_lex.specs.declared.words.Reserved.TheVariants as word
use Rattle.plank_lex.specs.declared.tokens.Token.{Token}
use Rattle.plank_lex.specs.declared.tokens.TokenKind.{TokenKind}
use Rattle.plank_lex.specs.declared.tokens.TokenKind.TheVariants as kind
use Rattle.plank_ast.specs.declared.names.Name.{Name}
use Rattle.plank_ast.specs.declared.header.Direction.{Direction}
use Rattle.plank_ast.specs.declared.header.StartKey.{StartKey}
use Rattle.plank_ast.specs.declared.header.StartValue.{StartValue}
use Rattle.plank_ast.specs.declared.header.StartItem.{StartItem}
use Rattle.plank_ast.specs.Spelling.{Spelling, mark, keyword, name_tokens, flag_tokens, direction_word, pointer_tokens, root_tokens, start_key_word, start_value_tokens, start_item_tokens, start_key_tokens, start_tokens}
use Rattle.plank_parse.specs.Readers.{◌<$>◌, name, is_name, many}
use Rattle.plank_parse.specs.Conditions.{truth}
use Rattle.plank_parse.specs.Header.{flag, direction_by, direction, pointer, root, start_key_by, start_key, start_key_line, start_value_by, start_value, start_item, start}
use Rattle.plank_parse.proofs.Grammars.{reads, many as many_of, read_one}
use Rattle.plank_parse.proofs.TextGrammar.{rules, flag_g, direction_g, pointer_g, root_g, start_key_g, start_key_line_g, start_value_g, start_item_g, start_items_g, start_g}
use Rattle.plank_parse.proofs.Follows.{Follow, Follows, Says, step, step_in, finish, symbol_law, word_law, name_law, name_test, take_one, halt, many_law, dispatch}
use Rattle.plank_parse.proofs.AtomRules.{token}

pub flag_law : (l : ℕ) → Follows (reads rules l flag_g) flag (Says flag_tokens)
unfolding flag flag_g
flag_law l =
    step _ _ _ _ _ _ (word_law word.Flag) (λ place. step _ _ _ _ _ _ name_law (λ own.
    finish _ _ (λ end. record { place = place; name = own }) _ _ (symbol_law symbol.Semicolon) (λ end. refl)))

-- the tokens of a direction with its place
abbrev way_tokens : Direction × Place → Spelling
way_tokens way = keyword (direction_word way.0)

direction_arm : (l : ℕ) (k : TokenKind) (p : Place) (n : ℕ) (ts : List Token) → Follow (reads rules l direction_g (k ∷ kinds_of ts)) (Says way_tokens) (token k p n ∷ ts) (direction_by k (token k p n ∷ ts))
unfolding direction_g
direction_arm l (kind.Reserved word.Ascending) p n ts = take_one _ _ _ _ _ refl refl
direction_arm l (kind.Reserved word.Descending) p n ts = take_one _ _ _ _ _ refl refl
direction_arm l (kind.Reserved word.Free) p n ts = take_one _ _ _ _ _ refl refl
direction_arm l (kind.Symbol symbol.OpenBrace) p n ts = halt _ _ refl
direction_arm l k p n ts = halt _ _ refl

direction_law : (l : ℕ) → Follows (reads rules l direction_g) direction (Says way_tokens)
unfolding direction direction_g
direction_law l = dispatch _ direction_by _ refl (direction_arm l)

pub pointer_law : (l : ℕ) → Follows (reads rules l pointer_g) pointer (Says pointer_tokens)
unfolding pointer pointer_g
pointer_law l =
    step _ _ _ _ _ _ (word_law word.Pointer) (λ place. step _ _ _ _ _ _ name_law (λ own. step _ _ _ _ _ _ (direction_law l) (λ way.
    finish _ _ (λ end. record { place = place; name = own; direction = way.0; direction_place = way.1 }) _ _ (symbol_law symbol.Semicolon) (λ end. refl))))

pub root_law : (l : ℕ) → Follows (reads rules l root_g) root (Says root_tokens)
unfolding root root_g
root_law l =
    step _ _ _ _ _ _ (word_law word.Root) (λ place. step _ _ _ _ _ _ name_law (λ own.
    finish _ _ (λ end. record { place = place; name = own }) _ _ (symbol_law symbol.Semicolon) (λ end. refl)))

-- ---- start nodes

abbrev key_word_tokens : StartKey × Place → Spelling
key_word_tokens key = keyword (start_key_word key.0)

abbrev key_tokens : StartKey × Place → Spelling
key_tokens key = start_key_tokens key.0

start_key_arm : (l : ℕ) (k : TokenKind) (p : Place) (n : ℕ) (ts : List Token) → Follow (reads rules l start_key_g (k ∷ kinds_of ts)) (Says key_word_tokens) (token k p n ∷ ts) (start_key_by k (token k p n ∷ ts))
unfolding start_key_g
start_key_arm l (kind.Reserved word.Min) p n ts = take_one _ _ _ _ _ refl refl
start_key_arm l (kind.Reserved word.Max) p n ts = take_one _ _ _ _ _ refl refl
start_key_arm l (kind.Symbol symbol.OpenBrace) p n ts = halt _ _ refl
start_key_arm l k p n ts = halt _ _ refl

start_key_law : (l : ℕ) → Follows (reads rules l start_key_g) start_key (Says key_word_tokens)
unfolding start_key start_key_g
start_key_law l = dispatch _ start_key_by _ refl (start_key_arm l)

start_key_line_law : (l : ℕ) → Follows (reads rules l start_key_line_g) start_key_line (Says key_tokens)
unfolding start_key_line start_key_line_g
start_key_line_law l =
    step _ _ _ _ _ _ (word_law word.Key) (λ place. step _ _ _ _ _ _ (symbol_law symbol.Assign) (λ sign. step _ _ _ _ _ _ (start_key_law l) (λ key.
    finish _ _ (λ end. key) _ _ (symbol_law symbol.Semicolon) (λ end. refl))))

named_value : Follows (read_one 60) (StartValue.Node <$> name) (Says start_value_tokens)
named_value = finish _ _ StartValue.Node _ _ name_law (λ n. refl)

start_value_arm : (l : ℕ) (k : TokenKind) (p : Place) (n : ℕ) (ts : List Token) → Follow (reads rules l start_value_g (k ∷ kinds_of ts)) (Says start_value_tokens) (token k p n ∷ ts) (start_value_by k (token k p n ∷ ts))
unfolding start_value_g truth
start_value_arm l (kind.Reserved word.True) p n ts = take_one _ _ _ _ _ refl refl
start_value_arm l (kind.Reserved word.False) p n ts = take_one _ _ _ _ _ refl refl
start_value_arm l (kind.Reserved word.Null) p n ts = take_one _ _ _ _ _ refl refl
start_value_arm l (kind.Symbol symbol.OpenBrace) p n ts = named_value.at (token (kind.Symbol symbol.OpenBrace) p n ∷ ts)
start_value_arm l k p n ts = named_value.at (token k p n ∷ ts)

start_value_law : (l : ℕ) → Follows (reads rules l start_value_g) start_value (Says start_value_tokens)
unfolding start_value start_value_g
start_value_law l = dispatch _ start_value_by _ refl (start_value_arm l)

item_spelled : (own : Name) (value : StartValue) → name_tokens own ++ (mark symbol.Assign ++ (start_value_tokens value ++ mark symbol.Semicolon)) ≡ start_item_tokens (record { field = own; value = value })
item_spelled own value = refl

start_item_law : (l : ℕ) → Follows (reads rules l start_item_g) start_item (Says start_item_tokens)
unfolding start_item start_item_g
start_item_law l =
    step _ _ _ _ _ _ name_law (λ own. step _ _ _ _ _ _ (symbol_law symbol.Assign) (λ sign. step _ _ _ _ _ _ (start_value_law l) (λ value.
    finish _ _ (λ end. record { field = own; value = value }) _ _ (symbol_law symbol.Semicolon) (λ end. item_spelled own value))))

items_law : (l : ℕ) → Follows (reads rules l (many_of start_item_g)) (many is_name start_item) (Says (flat_map start_item_tokens))
unfolding start_item_g
items_law l = many_law _ _ (60 ∷ []) _ _ name_test (start_item_law l)

start_spelled : (place : Place) (own : Name) (key : StartKey × Place) (items : List StartItem) → keyword word.Start ++ (name_tokens own ++ (mark symbol.OpenBrace ++ (key_tokens key ++ (flat_map start_item_tokens items ++ mark symbol.CloseBrace)))) ≡ start_tokens (record { place = place; name = own; key = key.0; key_place = key.1; items = items })
start_spelled place own key items = refl

pub start_law : (l : ℕ) → Follows (reads rules (suc l) start_g) start (Says start_tokens)
unfolding start start_g start_items_g rules
start_law l =
    step _ _ _ _ _ _ (word_law word.Start) (λ place. step _ _ _ _ _ _ name_law (λ own. step _ _ _ _ _ _ (symbol_law symbol.OpenBrace) (λ brace.
    step_in _ _ _ _ _ _ _ (start_key_line_law l) (λ key. step _ _ _ _ _ _ (items_law l) (λ items.
    finish _ _ (λ close. record { place = place; name = own; key = key.0; key_place = key.1; items = items }) _ _ (symbol_law symbol.CloseBrace) (λ close. start_spelled place own key items))))))
