-- The rules of the lines of a header, as readers.
use Rattle.plank_base.specs.declared.places.Place.{Place}
use Rattle.plank_base.specs.declared.limits.TheConstants.{NESTING_LIMIT}
use Rattle.plank_lex.specs.declared.symbols.Symbol.TheVariants as symbols
use Rattle.plank_lex.specs.declared.words.Reserved.{Reserved}
use Rattle.plank_lex.specs.declared.words.Reserved.TheVariants as words
use Rattle.plank_lex.specs.declared.tokens.TokenKind.{TokenKind}
use Rattle.plank_lex.specs.declared.tokens.TokenKind.TheVariants as kind
use Rattle.plank_ast.specs.declared.header.FlagLine.{FlagLine}
use Rattle.plank_ast.specs.declared.header.Direction.{Direction}
use Rattle.plank_ast.specs.declared.header.PointerLine.{PointerLine}
use Rattle.plank_ast.specs.declared.header.RootLine.{RootLine}
use Rattle.plank_ast.specs.declared.header.StartKey.{StartKey}
use Rattle.plank_ast.specs.declared.header.StartValue.{StartValue}
use Rattle.plank_ast.specs.declared.header.StartItem.{StartItem}
use Rattle.plank_ast.specs.declared.header.StartLine.{StartLine}
use Rattle.plank_ast.specs.declared.header.ConditionLine.{ConditionLine}
use Rattle.plank_ast.specs.declared.header.NamedCondition.{NamedCondition}
use Rattle.plank_parse.specs.Readers.{Reader, ◌>>=◌, ◌>>◌, ◌<$>◌, pure, refuse, word, symbol, name, by_kind, taken, is_name, many}
use Rattle.plank_parse.specs.Conditions.{truth, condition}

unfoldable pub flag : Reader FlagLine
flag = do
  place ← word words.Flag
  name ← name
  symbol symbols.Semicolon
  pure (record { place = place; name = name })

-- a direction and its place
abbrev pub direction_by : TokenKind → Reader (Direction × Place)
direction_by (kind.Reserved words.Ascending) = (λ p. (Direction.Ascending, p)) <$> taken
direction_by (kind.Reserved words.Descending) = (λ p. (Direction.Descending, p)) <$> taken
direction_by (kind.Reserved words.Free) = (λ p. (Direction.Free, p)) <$> taken
direction_by k = refuse

unfoldable pub direction : Reader (Direction × Place)
direction = by_kind direction_by

unfoldable pub pointer : Reader PointerLine
pointer = do
  place ← word words.Pointer
  name ← name
  way ← direction
  symbol symbols.Semicolon
  pure (record { place = place; name = name; direction = way.0; direction_place = way.1 })

unfoldable pub root : Reader RootLine
root = do
  place ← word words.Root
  name ← name
  symbol symbols.Semicolon
  pure (record { place = place; name = name })

abbrev pub start_key_by : TokenKind → Reader (StartKey × Place)
start_key_by (kind.Reserved words.Min) = (λ p. (StartKey.Min, p)) <$> taken
start_key_by (kind.Reserved words.Max) = (λ p. (StartKey.Max, p)) <$> taken
start_key_by k = refuse

-- the key of a start node, and its place
unfoldable pub start_key : Reader (StartKey × Place)
start_key = by_kind start_key_by

-- the line of a start node's key
unfoldable pub start_key_line : Reader (StartKey × Place)
start_key_line = do
  word words.Key
  symbol symbols.Assign
  key ← start_key
  symbol symbols.Semicolon
  pure key

abbrev pub start_value_by : TokenKind → Reader StartValue
start_value_by (kind.Reserved words.True) = StartValue.Flag <$> truth
start_value_by (kind.Reserved words.False) = StartValue.Flag <$> truth
start_value_by (kind.Reserved words.Null) = StartValue.Null <$> taken
start_value_by k = StartValue.Node <$> name

unfoldable pub start_value : Reader StartValue
start_value = by_kind start_value_by

unfoldable pub start_item : Reader StartItem
start_item = do
  field ← name
  symbol symbols.Assign
  value ← start_value
  symbol symbols.Semicolon
  pure (record { field = field; value = value })

unfoldable pub start : Reader StartLine
start = do
  place ← word words.Start
  name ← name
  symbol symbols.OpenBrace
  key ← start_key_line
  items ← many is_name start_item
  symbol symbols.CloseBrace
  pure (record { place = place; name = name; key = key.0; key_place = key.1; items = items })

-- a condition behind its word
unfoldable pub condition_line : Reserved → Reader ConditionLine
condition_line r = do
  place ← word r
  condition ← condition NESTING_LIMIT
  symbol symbols.Semicolon
  pure (record { place = place; condition = condition })

-- a named condition behind its word
unfoldable pub named_condition : Reserved → Reader NamedCondition
named_condition r = do
  place ← word r
  name ← name
  symbol symbols.Colon
  condition ← condition NESTING_LIMIT
  symbol symbols.Semicolon
  pure (record { place = place; name = name; condition = condition })
