-- The grammar of texts as data, rule by rule as the readers read.
use Rattle.std.proofs.Common.{[], ◌∷◌}
use Rattle.plank_lex.specs.declared.symbols.Symbol.{Symbol}
use Rattle.plank_lex.specs.declared.symbols.Symbol.TheVariants as symbol
use Rattle.plank_lex.specs.declared.words.Reserved.{Reserved}
use Rattle.plank_lex.specs.declared.words.Reserved.TheVariants as word
use Rattle.plank_lex.specs.declared.tokens.TokenKind.TheVariants as kind
use Rattle.plank_parse.proofs.Grammars.{Grammar, one, nothing, ahead, both, either, many, group, Rules, condition, start_items, argument, method_body, statements, block, tests}

abbrev pub sign : Symbol → Grammar
sign s = one (kind.Symbol s)

abbrev pub reserved : Reserved → Grammar
reserved r = one (kind.Reserved r)

abbrev pub a_name : Grammar
a_name = one (kind.Name (97 ∷ []))

abbrev pub perhaps : Grammar → Grammar
perhaps g = either g nothing

-- ---- names and atoms

unfoldable pub reference_g : Grammar
reference_g = either (reserved word.Root) a_name

unfoldable pub field_g : Grammar
field_g = either (reserved word.Key) a_name

unfoldable pub truth_g : Grammar
truth_g = either (reserved word.True) (reserved word.False)

unfoldable pub node_operand_g : Grammar
node_operand_g = both reference_g (perhaps (both (sign symbol.Dot) field_g))

unfoldable pub operand_g : Grammar
operand_g = either (reserved word.Min) (either (reserved word.Max) (either (reserved word.Null) node_operand_g))

unfoldable pub atom_end_g : Grammar
atom_end_g =
    either (both (sign symbol.Equal) operand_g) (either (both (sign symbol.NotEqual) operand_g) (either (both (sign symbol.Less) operand_g)
    (either (both (sign symbol.AtMost) operand_g) (either (both (reserved word.In) a_name) ahead))))

unfoldable pub atom_g : Grammar
atom_g = both operand_g atom_end_g

-- ---- conditions

unfoldable pub negation_g : Grammar
negation_g = both (sign symbol.Not) (both a_name (both (sign symbol.Dot) a_name))

unfoldable pub group_g : Grammar
group_g = group (kind.Symbol symbol.OpenParenthesis) condition (kind.Symbol symbol.CloseParenthesis)

unfoldable pub literal_g : Grammar
literal_g = either (reserved word.True) (either (reserved word.False) (either group_g (either negation_g atom_g)))

unfoldable pub conjunction_g : Grammar
conjunction_g = both literal_g (many (both (sign symbol.And) literal_g))

unfoldable pub condition_g : Grammar
condition_g = both conjunction_g (many (both (sign symbol.Or) conjunction_g))

-- ---- the header

unfoldable pub flag_g : Grammar
flag_g = both (reserved word.Flag) (both a_name (sign symbol.Semicolon))

unfoldable pub direction_g : Grammar
direction_g = either (reserved word.Ascending) (either (reserved word.Descending) (reserved word.Free))

unfoldable pub pointer_g : Grammar
pointer_g = both (reserved word.Pointer) (both a_name (both direction_g (sign symbol.Semicolon)))

unfoldable pub root_g : Grammar
root_g = both (reserved word.Root) (both a_name (sign symbol.Semicolon))

unfoldable pub start_key_g : Grammar
start_key_g = either (reserved word.Min) (reserved word.Max)

unfoldable pub start_key_line_g : Grammar
start_key_line_g = both (reserved word.Key) (both (sign symbol.Assign) (both start_key_g (sign symbol.Semicolon)))

unfoldable pub start_value_g : Grammar
start_value_g = either (reserved word.True) (either (reserved word.False) (either (reserved word.Null) a_name))

unfoldable pub start_item_g : Grammar
start_item_g = both a_name (both (sign symbol.Assign) (both start_value_g (sign symbol.Semicolon)))

unfoldable pub start_items_g : Grammar
start_items_g = both start_key_line_g (many start_item_g)

unfoldable pub start_g : Grammar
start_g = both (reserved word.Start) (both a_name (group (kind.Symbol symbol.OpenBrace) start_items (kind.Symbol symbol.CloseBrace)))

unfoldable pub condition_line_g : Reserved → Grammar
condition_line_g r = both (reserved r) (both condition_g (sign symbol.Semicolon))

unfoldable pub named_condition_g : Reserved → Grammar
named_condition_g r = both (reserved r) (both a_name (both (sign symbol.Colon) (both condition_g (sign symbol.Semicolon))))

-- ---- statements

unfoldable pub assigned_node_g : Grammar
assigned_node_g = both reference_g (perhaps (both (sign symbol.Dot) a_name))

unfoldable pub assigned_g : Grammar
assigned_g = either (reserved word.New) (either (reserved word.Null) assigned_node_g)

unfoldable pub assignment_g : Grammar
assignment_g = both a_name (both (sign symbol.Assign) (both assigned_g (sign symbol.Semicolon)))

unfoldable pub negated_test_g : Grammar
negated_test_g = both (sign symbol.Not) (both reference_g (both (sign symbol.Dot) a_name))

unfoldable pub test_g : Grammar
test_g = either negated_test_g atom_g

unfoldable pub inner_tests_g : Grammar
inner_tests_g = both test_g (many (both (sign symbol.And) test_g))

unfoldable pub tests_g : Grammar
tests_g = group (kind.Symbol symbol.OpenParenthesis) tests (kind.Symbol symbol.CloseParenthesis)

unfoldable pub with_line_g : Grammar
with_line_g = both (reserved word.With) (both reference_g (both (many (both (sign symbol.Comma) reference_g)) (sign symbol.Semicolon)))

unfoldable pub test_line_g : Grammar
test_line_g = both (reserved word.Test) (both test_g (sign symbol.Semicolon))

unfoldable pub selection_g : Grammar
selection_g = both reference_g (both (sign symbol.Dot) a_name)

unfoldable pub bind_g : Grammar
bind_g = both a_name (both (sign symbol.Assign) (both selection_g (sign symbol.Semicolon)))

unfoldable pub written_g : Grammar
written_g = either (reserved word.True) (either (reserved word.False) (either (reserved word.Null) reference_g))

unfoldable pub write_g : Grammar
write_g = both (reserved word.Write) (both selection_g (both (sign symbol.Assign) (both written_g (sign symbol.Semicolon))))

unfoldable pub block_g : Grammar
block_g = both (perhaps with_line_g) (both (many test_line_g) (both (many bind_g) (many write_g)))

unfoldable pub braced_block_g : Grammar
braced_block_g = group (kind.Symbol symbol.OpenBrace) block (kind.Symbol symbol.CloseBrace)

unfoldable pub node_line_g : Reserved → Grammar
node_line_g r = both (reserved r) (both reference_g (sign symbol.Semicolon))

unfoldable pub word_line_g : Reserved → Grammar
word_line_g r = both (reserved r) (sign symbol.Semicolon)

unfoldable pub return_line_g : Grammar
return_line_g = both (reserved word.Return) (both truth_g (sign symbol.Semicolon))

unfoldable pub body_g : Grammar
body_g = group (kind.Symbol symbol.OpenBrace) statements (kind.Symbol symbol.CloseBrace)

unfoldable pub otherwise_g : Grammar
otherwise_g = perhaps (both (reserved word.Else) body_g)

unfoldable pub atomic_g : Grammar
atomic_g = both (reserved word.Atomic) (both braced_block_g otherwise_g)

unfoldable pub if_g : Grammar
if_g = both (reserved word.If) (both tests_g (both body_g otherwise_g))

unfoldable pub while_g : Grammar
while_g = both (reserved word.While) (both tests_g body_g)

unfoldable pub loop_g : Grammar
loop_g = both (reserved word.Loop) body_g

unfoldable pub statement_g : Grammar
statement_g =
    either assignment_g (either atomic_g (either (node_line_g word.Lock) (either (node_line_g word.Unlock) (either if_g (either while_g
    (either loop_g (either (word_line_g word.Break) (either (word_line_g word.Continue) return_line_g))))))))

-- ---- methods and texts

unfoldable pub variables_g : Grammar
variables_g = both (reserved word.Variable) (both a_name (both (many (both (sign symbol.Comma) a_name)) (sign symbol.Semicolon)))

unfoldable pub argument_g : Grammar
argument_g = group (kind.Symbol symbol.OpenParenthesis) argument (kind.Symbol symbol.CloseParenthesis)

unfoldable pub signature_g : Grammar
signature_g = both (reserved word.Method) (both a_name (both (perhaps (both (reserved word.As) a_name)) argument_g))

unfoldable pub method_body_g : Grammar
method_body_g = both (perhaps variables_g) (many statement_g)

unfoldable pub contents_g : Grammar
contents_g = group (kind.Symbol symbol.OpenBrace) method_body (kind.Symbol symbol.CloseBrace)

unfoldable pub method_g : Grammar
method_g = both signature_g contents_g

unfoldable pub methods_g : Grammar
methods_g = both method_g (many method_g)

unfoldable pub structure_line_g : Grammar
structure_line_g = both (reserved word.Structure) (both a_name (sign symbol.Semicolon))

unfoldable pub declarations_g : Grammar
declarations_g =
    both structure_line_g (both (many flag_g) (both (many pointer_g) (both (perhaps (word_line_g word.Lock)) (both (many root_g) (many start_g)))))

unfoldable pub conditions_g : Grammar
conditions_g =
    both (many (named_condition_g word.Edge)) (both (condition_line_g word.Holds) (both (many (named_condition_g word.Keep)) (perhaps (condition_line_g word.Freeze))))

-- a whole text, without the end
unfoldable pub text_g : Grammar
text_g = both declarations_g (both conditions_g methods_g)

unfoldable pub rules : Rules
rules condition = condition_g
rules start_items = start_items_g
rules argument = a_name
rules method_body = method_body_g
rules statements = many statement_g
rules block = block_g
rules tests = inner_tests_g
