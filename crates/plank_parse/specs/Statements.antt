-- The rules of statements and their parts, as readers.
use Rattle.std.specs.Prelude.{ℕ, zero, suc, if◌then◌else◌}
use Rattle.plank_base.specs.declared.places.Place.{Place}
use Rattle.plank_lex.specs.declared.symbols.Symbol.TheVariants as symbols
use Rattle.plank_lex.specs.declared.words.Reserved.{Reserved}
use Rattle.plank_lex.specs.declared.words.Reserved.TheVariants as words
use Rattle.plank_lex.specs.declared.tokens.TokenKind.{TokenKind}
use Rattle.plank_lex.specs.declared.tokens.TokenKind.TheVariants as kind
use Rattle.plank_ast.specs.declared.names.Name.{Name}
use Rattle.plank_ast.specs.declared.names.Reference.{Reference}
use Rattle.plank_ast.specs.declared.statements.Assigned.{Assigned}
use Rattle.plank_ast.specs.declared.statements.With.{With}
use Rattle.plank_ast.specs.declared.statements.Test.{Test}
use Rattle.plank_ast.specs.declared.statements.TestLine.{TestLine}
use Rattle.plank_ast.specs.declared.statements.Tests.{Tests}
use Rattle.plank_ast.specs.declared.statements.Bind.{Bind}
use Rattle.plank_ast.specs.declared.statements.Written.{Written}
use Rattle.plank_ast.specs.declared.statements.Write.{Write}
use Rattle.plank_ast.specs.declared.statements.Statement.{Statement}
use Rattle.plank_ast.specs.declared.statements.Statement.TheVariants as statements
use Rattle.plank_ast.specs.declared.statements.Body.{Body}
use Rattle.plank_ast.specs.declared.statements.Else.{Else}
use Rattle.plank_ast.specs.declared.statements.Else.TheVariants as elses
use Rattle.plank_ast.specs.declared.statements.Else.TheViews.{roll-Body}
use Rattle.plank_ast.specs.declared.statements.Block.{Block}
use Rattle.plank_parse.specs.Readers.{Reader, read, ◌>>=◌, ◌>>◌, ◌<$>◌, pure, refuse, begins, is_kind, is_name, word, symbol, name, by_kind, taken, optional, many, many_from, many_until, each_after, blocked, opening}
use Rattle.plank_parse.specs.Conditions.{reference, dotted, truth, atom}

-- ---- assignments

-- a node, or the node that one of its pointers leads to
unfoldable pub assigned_node : Reader Assigned
assigned_node = do
  node ← reference
  field ← dotted name
  pure (Assigned.Node node field)

abbrev pub assigned_by : TokenKind → Reader Assigned
assigned_by (kind.Reserved words.New) = Assigned.New <$> taken
assigned_by (kind.Reserved words.Null) = Assigned.Null <$> taken
assigned_by k = assigned_node

unfoldable pub assigned : Reader Assigned
assigned = by_kind assigned_by

unfoldable pub assignment : Reader Statement
assignment = do
  variable ← name
  symbol symbols.Assign
  value ← assigned
  symbol symbols.Semicolon
  pure (statements.Assign variable value)

-- ---- tests

unfoldable pub negated_test : Reader Test
negated_test = do
  place ← symbol symbols.Not
  node ← reference
  symbol symbols.Dot
  field ← name
  pure (Test.Not place node field)

abbrev pub test_by : TokenKind → Reader Test
test_by (kind.Symbol symbols.Not) = negated_test
test_by k = Test.Atom <$> atom

unfoldable pub plain_test : Reader Test
plain_test = by_kind test_by

-- the tests of an `if` or a `while`, where so many brackets may still be opened
unfoldable pub tests : ℕ → Reader Tests
tests levels = do
  opening levels symbols.OpenParenthesis
  first ← plain_test
  others ← each_after (kind.Symbol symbols.And) plain_test
  symbol symbols.CloseParenthesis
  pure (record { first = first; others = others })

-- ---- atomic blocks

unfoldable pub with_line : Reader With
with_line = do
  place ← word words.With
  first ← reference
  others ← each_after (kind.Symbol symbols.Comma) reference
  symbol symbols.Semicolon
  pure (record { place = place; first = first; others = others })

unfoldable pub test_line : Reader TestLine
test_line = do
  place ← word words.Test
  test ← plain_test
  symbol symbols.Semicolon
  pure (record { place = place; test = test })

-- a reference, a dot and a name
unfoldable pub selection : Reader (Reference × Name)
selection = do
  node ← reference
  symbol symbols.Dot
  field ← name
  pure (node, field)

unfoldable pub bind : Reader Bind
bind = do
  variable ← name
  symbol symbols.Assign
  from ← selection
  symbol symbols.Semicolon
  pure (record { variable = variable; node = from.0; field = from.1 })

abbrev pub written_by : TokenKind → Reader Written
written_by (kind.Reserved words.True) = Written.Flag <$> truth
written_by (kind.Reserved words.False) = Written.Flag <$> truth
written_by (kind.Reserved words.Null) = Written.Null <$> taken
written_by k = Written.Node <$> reference

unfoldable pub written : Reader Written
written = by_kind written_by

unfoldable pub write : Reader Write
write = do
  place ← word words.Write
  to ← selection
  symbol symbols.Assign
  value ← written
  symbol symbols.Semicolon
  pure (record { place = place; node = to.0; field = to.1; value = value })

-- what stands between the braces of an atomic block
unfoldable pub block : Reader Block
block = do
  names ← optional (kind.Reserved words.With) with_line
  tests ← many_from (kind.Reserved words.Test) test_line
  binds ← many is_name bind
  writes ← many_from (kind.Reserved words.Write) write
  pure (record { with = names; tests = tests; binds = binds; writes = writes })

-- an atomic block with its braces
unfoldable pub braced_block : ℕ → Reader Block
braced_block levels = do
  opening levels symbols.OpenBrace
  found ← block
  symbol symbols.CloseBrace
  pure found

-- ---- statements that hold no others

-- a word and a node
unfoldable pub node_line : Reserved → (Place → Reference → Statement) → Reader Statement
node_line r statement = do
  place ← word r
  node ← reference
  symbol symbols.Semicolon
  pure (statement place node)

-- a word alone
unfoldable pub word_line : Reserved → (Place → Statement) → Reader Statement
word_line r statement = do
  place ← word r
  symbol symbols.Semicolon
  pure (statement place)

unfoldable pub return_line : Reader Statement
return_line = do
  place ← word words.Return
  answer ← truth
  symbol symbols.Semicolon
  pure (statements.Return place answer)

-- ---- statements. Their bodies are read by a reader that is given.

unfoldable pub otherwise_over : Reader Body → Reader Else
otherwise_over body tokens =
    if begins (is_kind (kind.Reserved words.Else)) tokens
    then (do place ← word words.Else; found ← body; pure (elses.Body place found)) tokens
    else read elses.Nothing tokens

unfoldable pub atomic_over : ℕ → Reader Body → Reader Statement
atomic_over levels body = do
  place ← word words.Atomic
  inner ← braced_block levels
  otherwise ← otherwise_over body
  pure (statements.Atomic place inner otherwise)

unfoldable pub if_over : ℕ → Reader Body → Reader Statement
if_over levels body = do
  place ← word words.If
  tests ← tests levels
  found ← body
  otherwise ← otherwise_over body
  pure (statements.If place tests found otherwise)

unfoldable pub while_over : ℕ → Reader Body → Reader Statement
while_over levels body = do
  place ← word words.While
  tests ← tests levels
  found ← body
  pure (statements.While place tests found)

unfoldable pub loop_over : Reader Body → Reader Statement
loop_over body = do
  place ← word words.Loop
  found ← body
  pure (statements.Loop place found)

abbrev pub statement_by : ℕ → Reader Body → TokenKind → Reader Statement
statement_by levels body (kind.Name label) = assignment
statement_by levels body (kind.Reserved words.Atomic) = atomic_over levels body
statement_by levels body (kind.Reserved words.Lock) = node_line words.Lock statements.Lock
statement_by levels body (kind.Reserved words.Unlock) = node_line words.Unlock statements.Unlock
statement_by levels body (kind.Reserved words.If) = if_over levels body
statement_by levels body (kind.Reserved words.While) = while_over levels body
statement_by levels body (kind.Reserved words.Loop) = loop_over body
statement_by levels body (kind.Reserved words.Break) = word_line words.Break statements.Break
statement_by levels body (kind.Reserved words.Continue) = word_line words.Continue statements.Continue
statement_by levels body (kind.Reserved words.Return) = return_line
statement_by levels body k = refuse

unfoldable pub statement_over : ℕ → Reader Body → Reader Statement
statement_over levels body = by_kind (statement_by levels body)

-- statements in braces, by the reader of one of them
unfoldable pub braced : Reader Statement → Reader Body
braced inner = do
  place ← symbol symbols.OpenBrace
  statements ← many_until (kind.Symbol symbols.CloseBrace) inner
  symbol symbols.CloseBrace
  pure (roll-Body (record { place = place; statements = statements }))

-- statements in braces, where so many brackets may still be opened
unfoldable pub body : ℕ → Reader Body
body zero = blocked symbols.OpenBrace
body (suc levels) = braced (statement_over levels (body levels))

abbrev pub statement : ℕ → Reader Statement
statement levels = statement_over levels (body levels)

abbrev pub otherwise : ℕ → Reader Else
otherwise levels = otherwise_over (body levels)
