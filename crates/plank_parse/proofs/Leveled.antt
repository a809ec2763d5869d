-- The readers of whole texts, for any number of brackets that may be opened within a method's braces.
use Rattle.std.proofs.Common.{◌≡◌, ℕ, suc, refl}
use Rattle.plank_lex.specs.declared.symbols.Symbol.TheVariants as symbols
use Rattle.plank_lex.specs.declared.words.Reserved.{Reserved}
use Rattle.plank_lex.specs.declared.words.Reserved.TheVariants as words
use Rattle.plank_lex.specs.declared.tokens.TokenKind.TheVariants as kind
use Rattle.plank_ast.specs.declared.header.ConditionLine.{ConditionLine}
use Rattle.plank_ast.specs.declared.header.NamedCondition.{NamedCondition}
use Rattle.plank_ast.specs.declared.methods.Method.{Method}
use Rattle.plank_ast.specs.declared.methods.Methods.{Methods}
use Rattle.plank_parse.specs.declared.pieces.Contents.{Contents}
use Rattle.plank_parse.specs.declared.pieces.Conditions.{Conditions}
use Rattle.plank_parse.specs.Readers.{Reader, ◌>>=◌, ◌>>◌, pure, word, symbol, expected, name, optional, many_from, many_until}
use Rattle.plank_parse.specs.Conditions.{condition}
use Rattle.plank_parse.specs.Header.{condition_line, named_condition}
use Rattle.plank_parse.specs.Statements.{statement}
use Rattle.plank_parse.specs.Texts.{variables, signature, contents, method, methods, declarations, conditions, Parts, joined, text, reading_of}

unfoldable pub condition_line_at : ℕ → Reserved → Reader ConditionLine
condition_line_at levels r = do
  place ← word r
  condition ← condition levels
  symbol symbols.Semicolon
  pure (record { place = place; condition = condition })

unfoldable pub named_condition_at : ℕ → Reserved → Reader NamedCondition
named_condition_at levels r = do
  place ← word r
  name ← name
  symbol symbols.Colon
  condition ← condition levels
  symbol symbols.Semicolon
  pure (record { place = place; name = name; condition = condition })

unfoldable pub contents_at : ℕ → Reader Contents
contents_at levels = do
  symbol symbols.OpenBrace
  variables ← optional (kind.Reserved words.Variable) variables
  statements ← many_until (kind.Symbol symbols.CloseBrace) (statement levels)
  end ← symbol symbols.CloseBrace
  pure (record { variables = variables; statements = statements; end = end })

unfoldable pub method_at : ℕ → Reader Method
method_at levels = do
  head ← signature
  inner ← contents_at levels
  pure (record {
    place = head.place;
    name = head.name;
    kind = head.kind;
    argument = head.argument;
    variables = inner.variables;
    statements = inner.statements;
    end = inner.end;
  })

unfoldable pub methods_at : ℕ → Reader Methods
methods_at levels = do
  first ← method_at levels
  others ← many_from (kind.Reserved words.Method) (method_at levels)
  pure (record { first = first; others = others })

unfoldable pub conditions_at : ℕ → Reader Conditions
conditions_at levels = do
  edges ← many_from (kind.Reserved words.Edge) (named_condition_at levels words.Edge)
  holds ← condition_line_at levels words.Holds
  keeps ← many_from (kind.Reserved words.Keep) (named_condition_at levels words.Keep)
  freeze ← optional (kind.Reserved words.Freeze) (condition_line_at levels words.Freeze)
  pure (record { edges = edges; holds = holds; keeps = keeps; freeze = freeze })

unfoldable pub text_at : ℕ → Reader Parts
text_at levels = do
  declared ← declarations
  stated ← conditions_at (suc levels)
  methods ← methods_at levels
  expected kind.End
  pure (joined declared stated methods)

-- a text is read with the levels of the language
pub reading_is : reading_of ≡ text_at 31
unfolding reading_of text conditions methods method contents condition_line named_condition condition_line_at named_condition_at contents_at method_at methods_at conditions_at text_at
reading_is = refl
