-- The readers of the lines of a header keep the places of their tokens.
use Rattle.std.proofs.Common.{ℕ, List, ◌∷◌, refl}
use Rattle.plank_base.specs.declared.places.Place.{Place}
use Rattle.plank_base.specs.declared.limits.TheConstants.{NESTING_LIMIT}
use Rattle.plank_lex.specs.declared.symbols.Symbol.TheVariants as symbols
use Rattle.plank_lex.specs.declared.words.Reserved.{Reserved}
use Rattle.plank_lex.specs.declared.words.Reserved.TheVariants as words
use Rattle.plank_lex.specs.declared.tokens.Token.{Token}
use Rattle.plank_lex.specs.declared.tokens.TokenKind.{TokenKind}
use Rattle.plank_lex.specs.declared.tokens.TokenKind.TheVariants as kind
use Rattle.plank_ast.specs.declared.names.Name.{Name}
use Rattle.plank_ast.specs.declared.conditions.Condition.{Condition}
use Rattle.plank_ast.specs.declared.header.FlagLine.{FlagLine}
use Rattle.plank_ast.specs.declared.header.Direction.{Direction}
use Rattle.plank_ast.specs.declared.header.PointerLine.{PointerLine}
use Rattle.plank_ast.specs.declared.header.RootLine.{RootLine}
use Rattle.plank_ast.specs.declared.header.StartKey.{StartKey}
use Rattle.plank_ast.specs.declared.header.StartValue.{StartValue}
use Rattle.plank_ast.specs.declared.header.StartItem.{StartItem}
use Rattle.plank_ast.specs.declared.header.StartLine.{StartLine}
use Rattle.plank_ast.specs.declared.header.ConditionLine.{ConditionLine}
use Rattle.plank_ast.specs.declared.header.NamedCondition.{NamedCondition}
use Rattle.plank_parse.specs.Readers.{◌<$>◌, name, is_name}
use Rattle.plank_parse.specs.Header.{flag, direction_by, direction, pointer, root, start_key_by, start_key, start_key_line, start_value_by, start_value, start_item, start, condition_line, named_condition}
use Rattle.plank_parse.specs.Conditions.{truth}
use Rattle.plank_parse.specs.Placing.{at, flag_places, pointer_places, root_places, start_value_places, start_item_places, start_key_places, start_places, condition_line_places, named_condition_places}
use Rattle.plank_parse.proofs.Standing.{join, Finds, Keeps, At, step, finish, word_at, bare_word, bare_symbol, name_at, token, dispatch, take_one, many_at}
use Rattle.plank_parse.proofs.PlacedConditions.{truth_at, condition_at}

abbrev flag_of : Place → Name → FlagLine
flag_of place name = record { place = place; name = name }

pub flag_at : Keeps flag (At flag_places)
unfolding flag
flag_at = step (word_at words.Flag) (λ place a h. step name_at (λ own b k.
    finish (λ end. flag_of place own) (bare_symbol symbols.Semicolon) (λ end d m. join h (join k m))))

direction_arm : (k : TokenKind) (p : Place) (n : ℕ) (ts : List Token) → Finds (At (λ (x : Direction × Place). at x.1)) (token k p n ∷ ts) (direction_by k (token k p n ∷ ts))
direction_arm (kind.Reserved words.Ascending) p n ts = take_one (λ q. (Direction.Ascending, q)) (λ x. at x.1) (token (kind.Reserved words.Ascending) p n) ts refl
direction_arm (kind.Reserved words.Descending) p n ts = take_one (λ q. (Direction.Descending, q)) (λ x. at x.1) (token (kind.Reserved words.Descending) p n) ts refl
direction_arm (kind.Reserved words.Free) p n ts = take_one (λ q. (Direction.Free, q)) (λ x. at x.1) (token (kind.Reserved words.Free) p n) ts refl
direction_arm (kind.Symbol symbols.OpenBrace) p n ts = tt
direction_arm k p n ts = tt

direction_at : Keeps direction (At (λ (x : Direction × Place). at x.1))
unfolding direction
direction_at = dispatch direction_by (At (λ (x : Direction × Place). at x.1)) direction_arm

abbrev pointer_of : Place → Name → Direction × Place → PointerLine
pointer_of place name way = record { place = place; name = name; direction = way.0; direction_place = way.1 }

pub pointer_at : Keeps pointer (At pointer_places)
unfolding pointer
pointer_at = step (word_at words.Pointer) (λ place a h. step name_at (λ own b k. step direction_at (λ way d m.
    finish (λ end. pointer_of place own way) (bare_symbol symbols.Semicolon) (λ end e n. join h (join k (join m n))))))

abbrev root_of : Place → Name → RootLine
root_of place name = record { place = place; name = name }

pub root_at : Keeps root (At root_places)
unfolding root
root_at = step (word_at words.Root) (λ place a h. step name_at (λ own b k.
    finish (λ end. root_of place own) (bare_symbol symbols.Semicolon) (λ end d m. join h (join k m))))

start_key_arm : (k : TokenKind) (p : Place) (n : ℕ) (ts : List Token) → Finds (At (λ (x : StartKey × Place). at x.1)) (token k p n ∷ ts) (start_key_by k (token k p n ∷ ts))
start_key_arm (kind.Reserved words.Min) p n ts = take_one (λ q. (StartKey.Min, q)) (λ x. at x.1) (token (kind.Reserved words.Min) p n) ts refl
start_key_arm (kind.Reserved words.Max) p n ts = take_one (λ q. (StartKey.Max, q)) (λ x. at x.1) (token (kind.Reserved words.Max) p n) ts refl
start_key_arm (kind.Symbol symbols.OpenBrace) p n ts = tt
start_key_arm k p n ts = tt

start_key_at : Keeps start_key (At (λ (x : StartKey × Place). at x.1))
unfolding start_key
start_key_at = dispatch start_key_by (At (λ (x : StartKey × Place). at x.1)) start_key_arm

start_key_line_at : Keeps start_key_line (At (λ (x : StartKey × Place). start_key_places x.1))
unfolding start_key_line
start_key_line_at = step (bare_word words.Key) (λ p a h. step (bare_symbol symbols.Assign) (λ q b k. step start_key_at (λ key d m.
    finish (λ end. key) (bare_symbol symbols.Semicolon) (λ end e n. join h (join k (join m n))))))

flag_value : Keeps (StartValue.Flag <$> truth) (At start_value_places)
flag_value = finish StartValue.Flag truth_at (λ t a h. h)

node_value : Keeps (StartValue.Node <$> name) (At start_value_places)
node_value = finish StartValue.Node name_at (λ t a h. h)

start_value_arm : (k : TokenKind) (p : Place) (n : ℕ) (ts : List Token) → Finds (At start_value_places) (token k p n ∷ ts) (start_value_by k (token k p n ∷ ts))
start_value_arm (kind.Reserved words.True) p n ts = flag_value.of (token (kind.Reserved words.True) p n ∷ ts)
start_value_arm (kind.Reserved words.False) p n ts = flag_value.of (token (kind.Reserved words.False) p n ∷ ts)
start_value_arm (kind.Reserved words.Null) p n ts = take_one StartValue.Null start_value_places (token (kind.Reserved words.Null) p n) ts refl
start_value_arm (kind.Symbol symbols.OpenBrace) p n ts = node_value.of (token (kind.Symbol symbols.OpenBrace) p n ∷ ts)
start_value_arm k p n ts = node_value.of (token k p n ∷ ts)

start_value_at : Keeps start_value (At start_value_places)
unfolding start_value
start_value_at = dispatch start_value_by (At start_value_places) start_value_arm

abbrev start_item_of : Name → StartValue → StartItem
start_item_of field value = record { field = field; value = value }

start_item_at : Keeps start_item (At start_item_places)
unfolding start_item
start_item_at = step name_at (λ field a h. step (bare_symbol symbols.Assign) (λ p b k. step start_value_at (λ value d m.
    finish (λ end. start_item_of field value) (bare_symbol symbols.Semicolon) (λ end e n. join h (join k (join m n))))))

abbrev start_of : Place → Name → StartKey × Place → List StartItem → StartLine
start_of place name key items = record { place = place; name = name; key = key.0; key_place = key.1; items = items }

pub start_at : Keeps start (At start_places)
unfolding start
start_at = step (word_at words.Start) (λ place a h. step name_at (λ own b k. step (bare_symbol symbols.OpenBrace) (λ p d m. step start_key_line_at (λ key e n.
    step (many_at is_name start_item_at) (λ items f o.
    finish (λ end. start_of place own key items) (bare_symbol symbols.CloseBrace) (λ end g q. join h (join k (join m (join n (join o q))))))))))

abbrev condition_line_of : Place → Condition → ConditionLine
condition_line_of place condition = record { place = place; condition = condition }

pub condition_line_at : (r : Reserved) → Keeps (condition_line r) (At condition_line_places)
unfolding condition_line
condition_line_at r = step (word_at r) (λ place a h. step (condition_at NESTING_LIMIT) (λ found b k.
    finish (λ end. condition_line_of place found) (bare_symbol symbols.Semicolon) (λ end d m. join h (join k m))))

abbrev named_condition_of : Place → Name → Condition → NamedCondition
named_condition_of place name condition = record { place = place; name = name; condition = condition }

pub named_condition_at : (r : Reserved) → Keeps (named_condition r) (At named_condition_places)
unfolding named_condition
named_condition_at r = step (word_at r) (λ place a h. step name_at (λ own b k. step (bare_symbol symbols.Colon) (λ p d m. step (condition_at NESTING_LIMIT) (λ found e n.
    finish (λ end. named_condition_of place own found) (bare_symbol symbols.Semicolon) (λ end f o. join h (join k (join m (join n o))))))))
