-- The rules of methods and of whole texts, as readers.
use Rattle.std.specs.Prelude.{ℕ, ◌-◌, List, Option}
use Rattle.plank_base.specs.declared.places.Place.{Place}
use Rattle.plank_base.specs.declared.limits.TheConstants.{NESTING_LIMIT}
use Rattle.plank_lex.specs.declared.symbols.Symbol.TheVariants as symbols
use Rattle.plank_lex.specs.declared.words.Reserved.TheVariants as words
use Rattle.plank_lex.specs.declared.tokens.Token.{Token}
use Rattle.plank_lex.specs.declared.tokens.TokenKind.TheVariants as kind
use Rattle.plank_ast.specs.declared.names.Name.{Name}
use Rattle.plank_ast.specs.declared.header.FlagLine.{FlagLine}
use Rattle.plank_ast.specs.declared.header.PointerLine.{PointerLine}
use Rattle.plank_ast.specs.declared.header.RootLine.{RootLine}
use Rattle.plank_ast.specs.declared.header.StartLine.{StartLine}
use Rattle.plank_ast.specs.declared.header.ConditionLine.{ConditionLine}
use Rattle.plank_ast.specs.declared.header.NamedCondition.{NamedCondition}
use Rattle.plank_ast.specs.declared.methods.Variables.{Variables}
use Rattle.plank_ast.specs.declared.methods.Method.{Method}
use Rattle.plank_ast.specs.declared.methods.Methods.{Methods}
use Rattle.plank_ast.specs.declared.texts.Text.{Text}
use Rattle.plank_ast.specs.Spelling.{Spelling, parts_tokens}
use Rattle.plank_parse.specs.declared.pieces.Signature.{Signature}
use Rattle.plank_parse.specs.declared.pieces.Contents.{Contents}
use Rattle.plank_parse.specs.declared.pieces.Declarations.{Declarations}
use Rattle.plank_parse.specs.declared.pieces.Conditions.{Conditions}
use Rattle.plank_parse.specs.Readers.{Found, Reader, ◌>>=◌, ◌>>◌, pure, word, symbol, expected, name, optional, behind, many_from, many_until, each_after}
use Rattle.plank_parse.specs.Header.{flag, pointer, root, start, condition_line, named_condition}
use Rattle.plank_parse.specs.Statements.{statement}

-- ---- methods

unfoldable pub variables : Reader Variables
variables = do
  place ← word words.Variable
  first ← name
  others ← each_after (kind.Symbol symbols.Comma) name
  symbol symbols.Semicolon
  pure (record { place = place; first = first; others = others })

-- the argument of a method, with its parentheses
unfoldable pub argument : Reader Name
argument = do
  symbol symbols.OpenParenthesis
  found ← name
  symbol symbols.CloseParenthesis
  pure found

-- the word, the name, the kind and the argument of a method
unfoldable pub signature : Reader Signature
signature = do
  place ← word words.Method
  own ← name
  purpose ← optional (kind.Reserved words.As) (behind (kind.Reserved words.As) name)
  argument ← argument
  pure (record { place = place; name = own; kind = purpose; argument = argument })

-- how many brackets may be opened within the braces of a method
abbrev pub levels_in_method : ℕ
levels_in_method = NESTING_LIMIT - 1

-- what a method has in its braces, and the place of the last brace
unfoldable pub contents : Reader Contents
contents = do
  symbol symbols.OpenBrace
  variables ← optional (kind.Reserved words.Variable) variables
  statements ← many_until (kind.Symbol symbols.CloseBrace) (statement levels_in_method)
  end ← symbol symbols.CloseBrace
  pure (record { variables = variables; statements = statements; end = end })

unfoldable pub method : Reader Method
method = do
  head ← signature
  inner ← contents
  pure (record {
    place = head.place;
    name = head.name;
    kind = head.kind;
    argument = head.argument;
    variables = inner.variables;
    statements = inner.statements;
    end = inner.end;
  })

unfoldable pub methods : Reader Methods
methods = do
  first ← method
  others ← many_from (kind.Reserved words.Method) method
  pure (record { first = first; others = others })

-- ---- the header

unfoldable pub lock_line : Reader Place
lock_line = do
  place ← word words.Lock
  symbol symbols.Semicolon
  pure place

-- the line of the structure's name: the place of its word, and the name
unfoldable pub structure_line : Reader (Place × Name)
structure_line = do
  place ← word words.Structure
  name ← name
  symbol symbols.Semicolon
  pure (place, name)

-- the lines that declare the fields, the root and the start nodes
unfoldable pub declarations : Reader Declarations
declarations = do
  head ← structure_line
  flags ← many_from (kind.Reserved words.Flag) flag
  pointers ← many_from (kind.Reserved words.Pointer) pointer
  lock ← optional (kind.Reserved words.Lock) lock_line
  roots ← many_from (kind.Reserved words.Root) root
  starts ← many_from (kind.Reserved words.Start) start
  pure (record {
    place = head.0;
    structure = head.1;
    flags = flags;
    pointers = pointers;
    lock = lock;
    roots = roots;
    starts = starts;
  })

-- the lines of the conditions
unfoldable pub conditions : Reader Conditions
conditions = do
  edges ← many_from (kind.Reserved words.Edge) (named_condition words.Edge)
  holds ← condition_line words.Holds
  keeps ← many_from (kind.Reserved words.Keep) (named_condition words.Keep)
  freeze ← optional (kind.Reserved words.Freeze) (condition_line words.Freeze)
  pure (record { edges = edges; holds = holds; keeps = keeps; freeze = freeze })

-- ---- whole texts

-- the parts of a text
pub record Parts : Type 0 where
  pub place : Place
  pub structure : Name
  pub flags : List FlagLine
  pub pointers : List PointerLine
  pub lock : Option Place
  pub roots : List RootLine
  pub starts : List StartLine
  pub edges : List NamedCondition
  pub holds : ConditionLine
  pub keeps : List NamedCondition
  pub freeze : Option ConditionLine
  pub methods : Methods

abbrev pub parts_of : Text → Parts
parts_of t = record {
  place = t.place;
  structure = t.structure;
  flags = t.flags;
  pointers = t.pointers;
  lock = t.lock;
  roots = t.roots;
  starts = t.starts;
  edges = t.edges;
  holds = t.holds;
  keeps = t.keeps;
  freeze = t.freeze;
  methods = t.methods;
}

-- the tokens of a text with these parts, without the end
abbrev pub parts_spelling : Parts → Spelling
parts_spelling p =
    parts_tokens p.structure p.flags p.pointers p.lock p.roots p.starts p.edges p.holds p.keeps p.freeze p.methods

abbrev pub joined : Declarations → Conditions → Methods → Parts
joined d c m = record {
  place = d.place;
  structure = d.structure;
  flags = d.flags;
  pointers = d.pointers;
  lock = d.lock;
  roots = d.roots;
  starts = d.starts;
  edges = c.edges;
  holds = c.holds;
  keeps = c.keeps;
  freeze = c.freeze;
  methods = m;
}

-- a whole text, up to and with the end
unfoldable pub text : Reader Parts
text = do
  declared ← declarations
  stated ← conditions
  methods ← methods
  expected kind.End
  pure (joined declared stated methods)

-- the parts of the text that these tokens are
unfoldable pub reading_of : List Token → Found Parts
reading_of tokens = text tokens
