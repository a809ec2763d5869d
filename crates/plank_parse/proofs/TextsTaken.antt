-- The grammar takes every text.
use Rattle.std.proofs.Common.{◌≡◌, Bool, true, false, List, [], ◌∷◌, ◌++◌, Option, refl, sym, subst, append_assoc}
use Rattle.std.specs.List.{flat_map}
use Rattle.std.specs.Option.{option_map_or}
use Rattle.plank_base.specs.declared.places.Place.{Place}
use Rattle.plank_lex.specs.declared.symbols.Symbol.TheVariants as symbol
use Rattle.plank_lex.specs.declared.words.Reserved.{Reserved}
use Rattle.plank_lex.specs.declared.words.Reserved.TheVariants as word
use Rattle.plank_lex.specs.declared.tokens.TokenKind.TheVariants as kind
use Rattle.plank_ast.specs.declared.names.Name.{Name}
use Rattle.plank_ast.specs.declared.header.FlagLine.{FlagLine}
use Rattle.plank_ast.specs.declared.header.Direction.{Direction}
use Rattle.plank_ast.specs.declared.header.PointerLine.{PointerLine}
use Rattle.plank_ast.specs.declared.header.RootLine.{RootLine}
use Rattle.plank_ast.specs.declared.header.StartKey.{StartKey}
use Rattle.plank_ast.specs.declared.header.StartValue.{StartValue}
use Rattle.plank_ast.specs.declared.header.StartItem.{StartItem}
use Rattle.plank_ast.specs.declared.header.StartLine.{StartLine}
use Rattle.plank_ast.specs.declared.header.ConditionLine.{ConditionLine}
use Rattle.plank_ast.specs.declared.header.NamedCondition.{NamedCondition}
use Rattle.plank_ast.specs.declared.statements.Statement.{Statement}
use Rattle.plank_ast.specs.declared.methods.Variables.{Variables}
use Rattle.plank_ast.specs.declared.methods.Method.{Method}
use Rattle.plank_ast.specs.declared.methods.Methods.{Methods}
use Rattle.plank_ast.specs.Spelling.{Spelling, mark, keyword, name_tokens, truth_word, flag_tokens, direction_word, pointer_tokens, root_tokens, start_key_word, start_value_tokens, start_item_tokens, start_key_tokens, start_tokens, condition_line_tokens, named_condition_tokens, statement_tokens, word_line_tokens, variables_tokens, signature_tokens, method_tokens, methods_tokens, declarations_tokens, conditions_tokens}
use Rattle.plank_parse.specs.Texts.{Parts, parts_spelling}
use Rattle.plank_parse.proofs.Grammars.{both, start_items, argument, method_body, firsts, goes_on, disjoint}
use Rattle.plank_parse.proofs.TextGrammar.{rules, sign, reserved, a_name, reference_g, field_g, truth_g, node_operand_g, operand_g, atom_end_g, atom_g, negation_g, group_g, literal_g, conjunction_g, condition_g, flag_g, direction_g, pointer_g, root_g, start_key_g, start_key_line_g, start_value_g, start_item_g, start_items_g, start_g, condition_line_g, named_condition_g, assigned_node_g, assigned_g, assignment_g, tests_g, braced_block_g, node_line_g, word_line_g, return_line_g, body_g, otherwise_g, atomic_g, if_g, while_g, loop_g, statement_g, variables_g, argument_g, signature_g, method_body_g, contents_g, method_g, methods_g, structure_line_g, declarations_g, conditions_g, text_g}
use Rattle.plank_parse.proofs.TextRules.{argument_tokens, kind_tokens, signature_spelled, method_spelled, declared_spelled, four_lists}
use Rattle.plank_parse.proofs.ConditionsTaken.{Takes, sign_taken, word_taken, name_taken, then_taken, first_taken, second_taken, perhaps_taken, every_taken, each_after_taken, group_taken, condition_taken}
use Rattle.plank_parse.proofs.StatementsTaken.{statement_taken, statement_apart, statement_some, word_line_taken}

-- ---- the header

flag_taken : (f : FlagLine) → Takes flag_g (flag_tokens f)
unfolding flag_g
flag_taken f = then_taken refl (word_taken word.Flag) (then_taken refl (name_taken f.name) (sign_taken symbol.Semicolon))

direction_taken : (d : Direction) → Takes direction_g (keyword (direction_word d))
unfolding direction_g
direction_taken Direction.Ascending = first_taken refl (word_taken word.Ascending)
direction_taken Direction.Descending = second_taken refl (first_taken refl (word_taken word.Descending))
direction_taken Direction.Free = second_taken refl (second_taken refl (word_taken word.Free))

pointer_taken : (p : PointerLine) → Takes pointer_g (pointer_tokens p)
unfolding pointer_g direction_g
pointer_taken p = then_taken refl (word_taken word.Pointer) (then_taken refl (name_taken p.name) (then_taken refl (direction_taken p.direction) (sign_taken symbol.Semicolon)))

root_taken : (r : RootLine) → Takes root_g (root_tokens r)
unfolding root_g
root_taken r = then_taken refl (word_taken word.Root) (then_taken refl (name_taken r.name) (sign_taken symbol.Semicolon))

start_key_taken : (k : StartKey) → Takes start_key_g (keyword (start_key_word k))
unfolding start_key_g
start_key_taken StartKey.Min = first_taken refl (word_taken word.Min)
start_key_taken StartKey.Max = second_taken refl (word_taken word.Max)

start_key_line_taken : (k : StartKey) → Takes start_key_line_g (start_key_tokens k)
unfolding start_key_line_g start_key_g
start_key_line_taken k = then_taken refl (word_taken word.Key) (then_taken refl (sign_taken symbol.Assign) (then_taken refl (start_key_taken k) (sign_taken symbol.Semicolon)))

flag_value_taken : (b : Bool) → Takes start_value_g (keyword (truth_word b))
unfolding start_value_g
flag_value_taken true = first_taken refl (word_taken word.True)
flag_value_taken false = second_taken refl (first_taken refl (word_taken word.False))

start_value_taken : (v : StartValue) → Takes start_value_g (start_value_tokens v)
unfolding start_value_g
start_value_taken (StartValue.Flag truth) = flag_value_taken truth.value
start_value_taken (StartValue.Null p) = second_taken refl (second_taken refl (first_taken refl (word_taken word.Null)))
start_value_taken (StartValue.Node n) = second_taken refl (second_taken refl (second_taken refl (name_taken n)))

start_item_taken : (i : StartItem) → Takes start_item_g (start_item_tokens i)
unfolding start_item_g start_value_g
start_item_taken i = then_taken refl (name_taken i.field) (then_taken refl (sign_taken symbol.Assign) (then_taken refl (start_value_taken i.value) (sign_taken symbol.Semicolon)))

start_items_taken : (key : StartKey) (items : List StartItem) → Takes start_items_g (start_key_tokens key ++ flat_map start_item_tokens items)
unfolding start_items_g start_key_line_g start_key_g start_item_g start_value_g
start_items_taken key items = then_taken refl (start_key_line_taken key) (every_taken start_item_g start_item_tokens refl refl start_item_taken items)

start_taken : (s : StartLine) → Takes start_g (start_tokens s)
unfolding start_g rules start_items_g start_key_line_g start_key_g start_item_g start_value_g
start_taken s = then_taken refl (word_taken word.Start) (then_taken refl (name_taken s.name)
    (group_taken (kind.Symbol symbol.OpenBrace) start_items (kind.Symbol symbol.CloseBrace) (start_key_tokens s.key ++ flat_map start_item_tokens s.items) refl (start_items_taken s.key s.items)))

line_taken : (r : Reserved) (c : ConditionLine) → Takes (condition_line_g r) (condition_line_tokens r c)
unfolding condition_line_g reference_g field_g node_operand_g operand_g atom_end_g atom_g negation_g group_g literal_g conjunction_g condition_g
line_taken r c = then_taken refl (word_taken r) (then_taken refl (condition_taken c.condition) (sign_taken symbol.Semicolon))

named_taken : (r : Reserved) (c : NamedCondition) → Takes (named_condition_g r) (named_condition_tokens r c)
unfolding named_condition_g reference_g field_g node_operand_g operand_g atom_end_g atom_g negation_g group_g literal_g conjunction_g condition_g
named_taken r c = then_taken refl (word_taken r) (then_taken refl (name_taken c.name) (then_taken refl (sign_taken symbol.Colon) (then_taken refl (condition_taken c.condition) (sign_taken symbol.Semicolon))))

-- ---- methods

more_names_apart : disjoint (goes_on (both (sign symbol.Comma) a_name)) (firsts (both (sign symbol.Comma) a_name)) ≡ true
more_names_apart = refl

variables_taken : (v : Variables) → Takes variables_g (variables_tokens v)
unfolding variables_g
variables_taken v = then_taken refl (word_taken word.Variable) (then_taken refl (name_taken v.first) (then_taken refl (each_after_taken symbol.Comma a_name name_tokens more_names_apart name_taken v.others) (sign_taken symbol.Semicolon)))

argument_taken : (n : Name) → Takes argument_g (argument_tokens n)
unfolding argument_g rules
argument_taken n = group_taken (kind.Symbol symbol.OpenParenthesis) argument (kind.Symbol symbol.CloseParenthesis) (name_tokens n) refl (name_taken n)

signature_taken : (own : Name) (purpose : Option Name) (found : Name) → Takes signature_g (signature_tokens own purpose found)
unfolding signature_g argument_g
signature_taken own purpose found = subst (λ (ks : Spelling). Takes signature_g ks) (signature_spelled own purpose found)
    (then_taken refl (word_taken word.Method) (then_taken refl (name_taken own) (then_taken refl (perhaps_taken (both (reserved word.As) a_name) kind_tokens refl (λ k. then_taken refl (word_taken word.As) (name_taken k)) purpose) (argument_taken found))))

method_body_taken : (own : Option Variables) (parts : List Statement) → Takes method_body_g (option_map_or variables_tokens own [] ++ flat_map statement_tokens parts)
unfolding method_body_g variables_g reference_g assigned_node_g assigned_g assignment_g atomic_g node_line_g if_g while_g loop_g word_line_g return_line_g truth_g tests_g body_g otherwise_g braced_block_g statement_g
method_body_taken own parts = then_taken refl (perhaps_taken variables_g variables_tokens refl variables_taken own) (every_taken statement_g statement_tokens statement_some statement_apart statement_taken parts)

contents_taken : (own : Option Variables) (parts : List Statement) → Takes contents_g (mark symbol.OpenBrace ++ (option_map_or variables_tokens own [] ++ (flat_map statement_tokens parts ++ mark symbol.CloseBrace)))
unfolding contents_g rules method_body_g variables_g reference_g assigned_node_g assigned_g assignment_g atomic_g node_line_g if_g while_g loop_g word_line_g return_line_g truth_g tests_g body_g otherwise_g braced_block_g statement_g
contents_taken own parts = subst (λ (ks : Spelling). Takes contents_g (kind.Symbol symbol.OpenBrace ∷ ks)) (append_assoc (option_map_or variables_tokens own []) (flat_map statement_tokens parts) (mark symbol.CloseBrace))
    (group_taken (kind.Symbol symbol.OpenBrace) method_body (kind.Symbol symbol.CloseBrace) (option_map_or variables_tokens own [] ++ flat_map statement_tokens parts) refl (method_body_taken own parts))

method_taken : (m : Method) → Takes method_g (method_tokens m)
unfolding method_g signature_g argument_g contents_g
method_taken m = subst (λ (ks : Spelling). Takes method_g ks) (method_spelled (signature_tokens m.name m.kind m.argument) (option_map_or variables_tokens m.variables []) (flat_map statement_tokens m.statements))
    (then_taken refl (signature_taken m.name m.kind m.argument) (contents_taken m.variables m.statements))

methods_taken : (m : Methods) → Takes methods_g (methods_tokens m)
unfolding methods_g method_g signature_g argument_g contents_g
methods_taken m = then_taken refl (method_taken m.first) (every_taken method_g method_tokens refl refl method_taken m.others)

-- ---- the text

structure_taken : (own : Name) → Takes structure_line_g (keyword word.Structure ++ name_tokens own ++ mark symbol.Semicolon)
unfolding structure_line_g
structure_taken own = then_taken refl (word_taken word.Structure) (then_taken refl (name_taken own) (sign_taken symbol.Semicolon))

declarations_taken : (own : Name) (flags : List FlagLine) (pointers : List PointerLine) (lock : Option Place) (roots : List RootLine) (starts : List StartLine) → Takes declarations_g (declarations_tokens own flags pointers lock roots starts)
unfolding flag_g direction_g pointer_g root_g start_g condition_line_g named_condition_g word_line_g structure_line_g declarations_g conditions_g signature_g argument_g contents_g method_g methods_g
declarations_taken own flags pointers lock roots starts =
    subst (λ (ks : Spelling). Takes declarations_g ks) (declared_spelled own (flat_map flag_tokens flags) (flat_map pointer_tokens pointers) (option_map_or (λ place. word_line_tokens word.Lock) lock []) (flat_map root_tokens roots) (flat_map start_tokens starts))
    (then_taken refl (structure_taken own) (then_taken refl (every_taken flag_g flag_tokens refl refl flag_taken flags) (then_taken refl (every_taken pointer_g pointer_tokens refl refl pointer_taken pointers)
    (then_taken refl (perhaps_taken (word_line_g word.Lock) (λ place. word_line_tokens word.Lock) refl (λ place. word_line_taken word.Lock) lock)
    (then_taken refl (every_taken root_g root_tokens refl refl root_taken roots) (every_taken start_g start_tokens refl refl start_taken starts))))))

conditions_taken : (edges : List NamedCondition) (holds : ConditionLine) (keeps : List NamedCondition) (freeze : Option ConditionLine) → Takes conditions_g (conditions_tokens edges holds keeps freeze)
unfolding flag_g direction_g pointer_g root_g start_g condition_line_g named_condition_g word_line_g structure_line_g declarations_g conditions_g signature_g argument_g contents_g method_g methods_g reference_g field_g node_operand_g operand_g atom_end_g atom_g negation_g group_g literal_g conjunction_g condition_g
conditions_taken edges holds keeps freeze =
    subst (λ (ks : Spelling). Takes conditions_g ks) (four_lists (flat_map (named_condition_tokens word.Edge) edges) (condition_line_tokens word.Holds holds) (flat_map (named_condition_tokens word.Keep) keeps) (option_map_or (condition_line_tokens word.Freeze) freeze []))
    (then_taken refl (every_taken (named_condition_g word.Edge) (named_condition_tokens word.Edge) refl refl (named_taken word.Edge) edges) (then_taken refl (line_taken word.Holds holds)
    (then_taken refl (every_taken (named_condition_g word.Keep) (named_condition_tokens word.Keep) refl refl (named_taken word.Keep) keeps) (perhaps_taken (condition_line_g word.Freeze) (condition_line_tokens word.Freeze) refl (line_taken word.Freeze) freeze))))

-- the grammar takes every text
pub text_taken : (p : Parts) → Takes text_g (parts_spelling p)
unfolding text_g flag_g direction_g pointer_g root_g start_g condition_line_g named_condition_g word_line_g structure_line_g declarations_g conditions_g signature_g argument_g contents_g method_g methods_g reference_g field_g node_operand_g operand_g atom_end_g atom_g negation_g group_g literal_g conjunction_g condition_g
text_taken p = subst (λ (ks : Spelling). Takes text_g ks) (sym (append_assoc (declarations_tokens p.structure p.flags p.pointers p.lock p.roots p.starts) (conditions_tokens p.edges p.holds p.keeps p.freeze) (methods_tokens p.methods)))
    (then_taken refl (declarations_taken p.structure p.flags p.pointers p.lock p.roots p.starts) (then_taken refl (conditions_taken p.edges p.holds p.keeps p.freeze) (methods_taken p.methods)))
