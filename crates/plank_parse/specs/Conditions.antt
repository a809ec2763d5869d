-- The rules of conditions and their parts, as readers.
use Rattle.std.specs.Prelude.{ℕ, zero, suc, true, false, Option}
use Rattle.plank_lex.specs.declared.symbols.Symbol.TheVariants as symbols
use Rattle.plank_lex.specs.declared.words.Reserved.TheVariants as words
use Rattle.plank_lex.specs.declared.tokens.TokenKind.{TokenKind}
use Rattle.plank_lex.specs.declared.tokens.TokenKind.TheVariants as kind
use Rattle.plank_ast.specs.declared.names.Reference.{Reference}
use Rattle.plank_ast.specs.declared.names.Field.{Field}
use Rattle.plank_ast.specs.declared.names.Truth.{Truth}
use Rattle.plank_ast.specs.declared.conditions.Comparison.{Comparison}
use Rattle.plank_ast.specs.declared.conditions.Operand.{Operand}
use Rattle.plank_ast.specs.declared.conditions.AtomEnd.{AtomEnd}
use Rattle.plank_ast.specs.declared.conditions.Atom.{Atom}
use Rattle.plank_ast.specs.declared.conditions.Condition.{Condition}
use Rattle.plank_ast.specs.declared.conditions.Conjunction.{Conjunction}
use Rattle.plank_ast.specs.declared.conditions.Literal.{Literal}
use Rattle.plank_ast.specs.declared.conditions.Literal.TheVariants as literals
use Rattle.plank_ast.specs.declared.conditions.Literal.TheViews.{roll-Condition, roll-Conjunction}
use Rattle.plank_parse.specs.Readers.{Reader, ◌>>=◌, ◌>>◌, ◌<$>◌, pure, refuse, symbol, name, by_kind, taken, optional, behind, each_after, blocked}

-- ---- names

abbrev pub reference_by : TokenKind → Reader Reference
reference_by (kind.Reserved words.Root) = Reference.Root <$> taken
reference_by k = Reference.Name <$> name

unfoldable pub reference : Reader Reference
reference = by_kind reference_by

abbrev pub field_by : TokenKind → Reader Field
field_by (kind.Reserved words.Key) = Field.Key <$> taken
field_by k = Field.Name <$> name

unfoldable pub field : Reader Field
field = by_kind field_by

-- a dot and what follows it, where there is a dot
abbrev pub dotted : {A : Type 0} → Reader A → Reader (Option A)
dotted r = optional (kind.Symbol symbols.Dot) (behind (kind.Symbol symbols.Dot) r)

abbrev pub truth_by : TokenKind → Reader Truth
truth_by (kind.Reserved words.True) = (λ p. record { value = true; place = p }) <$> taken
truth_by (kind.Reserved words.False) = (λ p. record { value = false; place = p }) <$> taken
truth_by k = refuse

unfoldable pub truth : Reader Truth
truth = by_kind truth_by

-- ---- atoms

-- a node, alone or with one of its fields
unfoldable pub node_operand : Reader Operand
node_operand = do
  node ← reference
  field ← dotted field
  pure (Operand.Node node field)

abbrev pub operand_by : TokenKind → Reader Operand
operand_by (kind.Reserved words.Min) = Operand.Min <$> taken
operand_by (kind.Reserved words.Max) = Operand.Max <$> taken
operand_by (kind.Reserved words.Null) = Operand.Null <$> taken
operand_by k = node_operand

unfoldable pub operand : Reader Operand
operand = by_kind operand_by

unfoldable pub compared : Comparison → Reader AtomEnd
compared comparison = do
  place ← taken
  second ← operand
  pure (AtomEnd.Compared comparison place second)

unfoldable pub membership : Reader AtomEnd
membership = do
  place ← taken
  node ← name
  pure (AtomEnd.In place node)

abbrev pub atom_end_by : TokenKind → Reader AtomEnd
atom_end_by (kind.Symbol symbols.Equal) = compared Comparison.Equal
atom_end_by (kind.Symbol symbols.NotEqual) = compared Comparison.NotEqual
atom_end_by (kind.Symbol symbols.Less) = compared Comparison.Less
atom_end_by (kind.Symbol symbols.AtMost) = compared Comparison.AtMost
atom_end_by (kind.Reserved words.In) = membership
atom_end_by k = pure AtomEnd.Nothing

unfoldable pub atom_end : Reader AtomEnd
atom_end = by_kind atom_end_by

unfoldable pub atom : Reader Atom
atom = do
  operand ← operand
  end ← atom_end
  pure (record { operand = operand; end = end })

-- ---- conditions. What stands within parentheses is read by a reader that is given.

unfoldable pub negation : Reader Literal
negation = do
  place ← symbol symbols.Not
  node ← name
  symbol symbols.Dot
  field ← name
  pure (literals.Not place node field)

abbrev pub literal_by : Reader Literal → TokenKind → Reader Literal
literal_by group (kind.Reserved words.True) = literals.True <$> taken
literal_by group (kind.Reserved words.False) = literals.False <$> taken
literal_by group (kind.Symbol symbols.OpenParenthesis) = group
literal_by group (kind.Symbol symbols.Not) = negation
literal_by group k = literals.Atom <$> atom

unfoldable pub literal_over : Reader Literal → Reader Literal
literal_over group = by_kind (literal_by group)

unfoldable pub conjunction_over : Reader Literal → Reader Conjunction
conjunction_over group = do
  first ← literal_over group
  others ← each_after (kind.Symbol symbols.And) (literal_over group)
  pure (roll-Conjunction (record { first = first; others = others }))

unfoldable pub condition_over : Reader Literal → Reader Condition
condition_over group = do
  first ← conjunction_over group
  others ← each_after (kind.Symbol symbols.Or) (conjunction_over group)
  pure (roll-Condition (record { first = first; others = others }))

-- a condition in parentheses, by the reader of the groups inside it
unfoldable pub grouped : Reader Literal → Reader Literal
grouped inner_group = do
  place ← symbol symbols.OpenParenthesis
  inner ← condition_over inner_group
  symbol symbols.CloseParenthesis
  pure (literals.Group place inner)

-- a condition in parentheses, where so many brackets may still be opened
unfoldable pub group : ℕ → Reader Literal
group zero = blocked symbols.OpenParenthesis
group (suc levels) = grouped (group levels)

abbrev pub literal : ℕ → Reader Literal
literal levels = literal_over (group levels)

abbrev pub conjunction : ℕ → Reader Conjunction
conjunction levels = conjunction_over (group levels)

abbrev pub condition : ℕ → Reader Condition
condition levels = condition_over (group levels)
