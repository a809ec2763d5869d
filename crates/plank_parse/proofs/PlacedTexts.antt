-- The reader of whole texts keeps the places of their tokens.
use Rattle.std.proofs.Common.{◌≡◌, List, [], Option, sym, subst, ◌∙◌, append-nil}
use Rattle.plank_base.specs.declared.places.Place.{Place}
use Rattle.plank_lex.specs.declared.symbols.Symbol.TheVariants as symbols
use Rattle.plank_lex.specs.declared.words.Reserved.TheVariants as words
use Rattle.plank_lex.specs.declared.tokens.Token.{Token}
use Rattle.plank_lex.specs.declared.tokens.TokenKind.TheVariants as kind
use Rattle.plank_ast.specs.declared.names.Name.{Name}
use Rattle.plank_ast.specs.declared.header.FlagLine.{FlagLine}
use Rattle.plank_ast.specs.declared.header.PointerLine.{PointerLine}
use Rattle.plank_ast.specs.declared.header.RootLine.{RootLine}
use Rattle.plank_ast.specs.declared.header.StartLine.{StartLine}
use Rattle.plank_ast.specs.declared.header.ConditionLine.{ConditionLine}
use Rattle.plank_ast.specs.declared.header.NamedCondition.{NamedCondition}
use Rattle.plank_ast.specs.declared.statements.Statement.{Statement}
use Rattle.plank_ast.specs.declared.methods.Variables.{Variables}
use Rattle.plank_ast.specs.declared.methods.Method.{Method}
use Rattle.plank_ast.specs.declared.methods.Methods.{Methods}
use Rattle.plank_parse.specs.declared.pieces.Signature.{Signature}
use Rattle.plank_parse.specs.declared.pieces.Contents.{Contents}
use Rattle.plank_parse.specs.declared.pieces.Declarations.{Declarations}
use Rattle.plank_parse.specs.declared.pieces.Conditions.{Conditions}
use Rattle.plank_parse.specs.Readers.{Found, read, name, is_kind, is_other}
use Rattle.plank_parse.specs.Texts.{variables, argument, signature, levels_in_method, contents, method, methods, lock_line, structure_line, declarations, conditions, Parts, joined, text, reading_of}
use Rattle.plank_parse.specs.Placing.{Places, ◌⊕◌, at, bare, StandAt, name_places, variables_places, signature_places, contents_places, method_places, methods_places, declarations_places, conditions_places, text_places}
use Rattle.plank_parse.proofs.Standing.{join, Finds, Keeps, At, step, finish, word_at, symbol_at, bare_symbol, bare_token, name_at, optional_at, many_at, behind_at}
use Rattle.plank_parse.proofs.PlacedHeader.{flag_at, pointer_at, root_at, start_at, condition_line_at, named_condition_at}
use Rattle.plank_parse.proofs.PlacedStatements.{statement_at}

abbrev variables_of : Place → Name → List Name → Variables
variables_of place first others = record { place = place; first = first; others = others }

variables_at : Keeps variables (At variables_places)
unfolding variables
variables_at = step (word_at words.Variable) (λ place a h. step name_at (λ first b k.
    step (many_at (is_kind (kind.Symbol symbols.Comma)) (behind_at (kind.Symbol symbols.Comma) name_at)) (λ others d m.
    finish (λ end. variables_of place first others) (bare_symbol symbols.Semicolon) (λ end e n. join h (join k (join m n))))))

abbrev argument_places : Name → Places
argument_places n = bare ⊕ name_places n ⊕ bare

argument_at : Keeps argument (At argument_places)
unfolding argument
argument_at = step (bare_symbol symbols.OpenParenthesis) (λ p a h. step name_at (λ found b k.
    finish (λ end. found) (bare_symbol symbols.CloseParenthesis) (λ end d m. join h (join k m))))

abbrev signature_of : Place → Name → Option Name → Name → Signature
signature_of place name purpose argument = record { place = place; name = name; kind = purpose; argument = argument }

abbrev head_places : Signature → Places
head_places s = signature_places s.place s.name s.kind s.argument

signature_at : Keeps signature (At head_places)
unfolding signature
signature_at = step (word_at words.Method) (λ place a h. step name_at (λ own b k.
    step (optional_at (kind.Reserved words.As) (behind_at (kind.Reserved words.As) name_at)) (λ purpose d m.
    finish (signature_of place own purpose) argument_at (λ found e n. join h (join k (join m n))))))

abbrev contents_of : Option Variables → List Statement → Place → Contents
contents_of variables statements end = record { variables = variables; statements = statements; end = end }

abbrev inner_places : Contents → Places
inner_places c = contents_places c.variables c.statements c.end

contents_at : Keeps contents (At inner_places)
unfolding contents
contents_at = step (bare_symbol symbols.OpenBrace) (λ p a h. step (optional_at (kind.Reserved words.Variable) variables_at) (λ own b k.
    step (many_at (is_other (kind.Symbol symbols.CloseBrace)) (statement_at levels_in_method)) (λ found d m.
    finish (contents_of own found) (symbol_at symbols.CloseBrace) (λ end e n. join h (join k (join m n))))))

abbrev method_of : Signature → Contents → Method
method_of head inner = record {
  place = head.place;
  name = head.name;
  kind = head.kind;
  argument = head.argument;
  variables = inner.variables;
  statements = inner.statements;
  end = inner.end;
}

method_at : Keeps method (At method_places)
unfolding method
method_at = step signature_at (λ head a h. finish (method_of head) contents_at (λ inner b k. join h k))

abbrev methods_of : Method → List Method → Methods
methods_of first others = record { first = first; others = others }

methods_at : Keeps methods (At methods_places)
unfolding methods
methods_at = step method_at (λ first a h. finish (methods_of first) (many_at (is_kind (kind.Reserved words.Method)) method_at) (λ others b k. join h k))

lock_at : Keeps lock_line (At (λ p. at p ⊕ bare))
unfolding lock_line
lock_at = step (word_at words.Lock) (λ place a h. finish (λ end. place) (bare_symbol symbols.Semicolon) (λ end b k. join h k))

abbrev structure_of : Place → Name → Place × Name
structure_of place name = (place, name)

structure_at : Keeps structure_line (At (λ (x : Place × Name). at x.0 ⊕ name_places x.1 ⊕ bare))
unfolding structure_line
structure_at = step (word_at words.Structure) (λ place a h. step name_at (λ own b k.
    finish (λ end. structure_of place own) (bare_symbol symbols.Semicolon) (λ end d m. join h (join k m))))

abbrev declarations_of : Place × Name → List FlagLine → List PointerLine → Option Place → List RootLine → List StartLine → Declarations
declarations_of head flags pointers lock roots starts =
    record { place = head.0; structure = head.1; flags = flags; pointers = pointers; lock = lock; roots = roots; starts = starts }

abbrev declared_places : Declarations → Places
declared_places d = declarations_places d.place d.structure d.flags d.pointers d.lock d.roots d.starts

declarations_at : Keeps declarations (At declared_places)
unfolding declarations
declarations_at = step structure_at (λ head a h. step (many_at (is_kind (kind.Reserved words.Flag)) flag_at) (λ flags b k.
    step (many_at (is_kind (kind.Reserved words.Pointer)) pointer_at) (λ pointers d m. step (optional_at (kind.Reserved words.Lock) lock_at) (λ lock e n.
    step (many_at (is_kind (kind.Reserved words.Root)) root_at) (λ roots f o.
    finish (declarations_of head flags pointers lock roots) (many_at (is_kind (kind.Reserved words.Start)) start_at)
    (λ starts g q. join h (join k (join m (join n (join o q))))))))))

abbrev conditions_of : List NamedCondition → ConditionLine → List NamedCondition → Option ConditionLine → Conditions
conditions_of edges holds keeps freeze = record { edges = edges; holds = holds; keeps = keeps; freeze = freeze }

abbrev stated_places : Conditions → Places
stated_places c = conditions_places c.edges c.holds c.keeps c.freeze

conditions_at : Keeps conditions (At stated_places)
unfolding conditions
conditions_at = step (many_at (is_kind (kind.Reserved words.Edge)) (named_condition_at words.Edge)) (λ edges a h. step (condition_line_at words.Holds) (λ holds b k.
    step (many_at (is_kind (kind.Reserved words.Keep)) (named_condition_at words.Keep)) (λ keeps d m.
    finish (conditions_of edges holds keeps) (optional_at (kind.Reserved words.Freeze) (condition_line_at words.Freeze)) (λ freeze e n. join h (join k (join m n))))))

text_at : Keeps text (At text_places)
unfolding text
text_at = step declarations_at (λ declared a h. step conditions_at (λ stated b k. step methods_at (λ found d m.
    finish (λ end. joined declared stated found) (bare_token kind.End) (λ end e n. join h (join k (join m n))))))

-- the tokens of a text that is read to its end stand at the places that its parts keep
pub kept_places : (tokens : List Token) (p : Parts) → reading_of tokens ≡ read p [] → StandAt (text_places p) tokens
unfolding reading_of
kept_places tokens p found = go (subst (λ (x : Found Parts). Finds (At text_places) tokens x) found (text_at.of tokens))
  where
    go : Finds (At text_places) tokens (read p []) → StandAt (text_places p) tokens
    go v = subst (λ (ts : List Token). StandAt (text_places p) ts) (sym (v.split ∙ append-nil v.front)) v.says.by
