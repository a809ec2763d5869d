-- In the grammar of texts the next token decides at each turn.
use Rattle.std.proofs.Common.{◌≡◌, ℕ, Bool, true, false, not, ◌&&◌, [], ◌∷◌, ◌++◌, refl}
use Rattle.std.proofs.lemmas.Bool.{false≢true}
use Rattle.plank_lex.specs.declared.tokens.TokenKind.TheVariants as kind
use Rattle.plank_parse.proofs.Grammars.{Grammar, one, nothing, ahead, both, either, many, group, Inside, Rules, condition, start_items, argument, method_body, statements, block, tests, nullable, goes_on, decides, member, class_of}
use Rattle.plank_parse.proofs.Taken.{Taken, taken_nothing, taken_ahead, taken_many, no_repeat, taken_one, taken_both, taken_left}
use Rattle.plank_parse.proofs.Verdicts.{Some_taken}
use Rattle.plank_parse.proofs.GrammarLaws.{Decided, Law, law_of, both_parts, either_parts}
use Rattle.plank_parse.proofs.TextGrammar.{reference_g, field_g, truth_g, node_operand_g, operand_g, atom_end_g, atom_g, negation_g, group_g, literal_g, conjunction_g, condition_g, flag_g, direction_g, pointer_g, root_g, start_key_g, start_key_line_g, start_value_g, start_item_g, start_items_g, start_g, condition_line_g, named_condition_g, assigned_node_g, assigned_g, assignment_g, negated_test_g, test_g, inner_tests_g, tests_g, with_line_g, test_line_g, selection_g, bind_g, written_g, write_g, block_g, braced_block_g, node_line_g, word_line_g, return_line_g, body_g, otherwise_g, atomic_g, if_g, while_g, loop_g, statement_g, variables_g, argument_g, signature_g, method_body_g, contents_g, method_g, methods_g, structure_line_g, declarations_g, conditions_g, text_g, rules}

-- whether what the rule takes at least has no brackets
abbrev pub flat : Grammar → Bool
flat (one k) = true
flat nothing = true
flat ahead = true
flat (both g h) = flat g && flat h
flat (either g h) = flat g
flat (many g) = true
flat (group o n c) = false

pub decided : (n : Inside) → decides rules (rules n) ≡ true
unfolding reference_g field_g truth_g node_operand_g operand_g atom_end_g atom_g negation_g group_g literal_g conjunction_g condition_g flag_g direction_g pointer_g root_g start_key_g start_key_line_g start_value_g start_item_g start_items_g start_g condition_line_g named_condition_g assigned_node_g assigned_g assignment_g negated_test_g test_g inner_tests_g tests_g with_line_g test_line_g selection_g bind_g written_g write_g block_g braced_block_g node_line_g word_line_g return_line_g body_g otherwise_g atomic_g if_g while_g loop_g statement_g variables_g argument_g signature_g method_body_g contents_g method_g methods_g structure_line_g declarations_g conditions_g text_g rules
decided condition = refl
decided start_items = refl
decided argument = refl
decided method_body = refl
decided statements = refl
decided block = refl
decided tests = refl

pub text_decides : decides rules text_g ≡ true
unfolding reference_g field_g truth_g node_operand_g operand_g atom_end_g atom_g negation_g group_g literal_g conjunction_g condition_g flag_g direction_g pointer_g root_g start_key_g start_key_line_g start_value_g start_item_g start_items_g start_g condition_line_g named_condition_g assigned_node_g assigned_g assignment_g negated_test_g test_g inner_tests_g tests_g with_line_g test_line_g selection_g bind_g written_g write_g block_g braced_block_g node_line_g word_line_g return_line_g body_g otherwise_g atomic_g if_g while_g loop_g statement_g variables_g argument_g signature_g method_body_g contents_g method_g methods_g structure_line_g declarations_g conditions_g text_g rules
text_decides = refl

and_first : (a b : Bool) → (a && b) ≡ true → a ≡ true
and_first true b e = refl
and_first false b e = e

and_second : (a b : Bool) → (a && b) ≡ true → b ≡ true
and_second true b e = e
and_second false b e = absurd (false≢true e)

-- without a bracket something is taken
flat_taken : (r : Rules) (g : Grammar) → flat g ≡ true → decides r g ≡ true → Some_taken (Taken r g)
flat_taken r (one k) f e = (k ∷ [], taken_one r k k refl)
flat_taken r nothing f e = ([], taken_nothing r)
flat_taken r ahead f e = ([], taken_ahead r)
flat_taken r (both g h) f e =
    let a : Some_taken (Taken r g) = flat_taken r g (and_first (flat g) (flat h) f) (both_parts r g h e).0 in
    let b : Some_taken (Taken r h) = flat_taken r h (and_second (flat g) (flat h) f) (both_parts r g h e).1 in
    (a.0 ++ b.0, taken_both r g h a.0 b.0 (both_parts r g h e).2 a.1 b.1)
flat_taken r (either g h) f e =
    let a : Some_taken (Taken r g) = flat_taken r g f (either_parts r g h e).0 in
    (a.0, taken_left r g h a.0 (either_parts r g h e).2 a.1)
flat_taken r (many g) f e = ([], taken_many r g [] (no_repeat r g))
flat_taken r (group o n c) f e = absurd (false≢true f)

flats : (n : Inside) → flat (rules n) ≡ true
unfolding reference_g field_g truth_g node_operand_g operand_g atom_end_g atom_g negation_g group_g literal_g conjunction_g condition_g flag_g direction_g pointer_g root_g start_key_g start_key_line_g start_value_g start_item_g start_items_g start_g condition_line_g named_condition_g assigned_node_g assigned_g assignment_g negated_test_g test_g inner_tests_g tests_g with_line_g test_line_g selection_g bind_g written_g write_g block_g braced_block_g node_line_g word_line_g return_line_g body_g otherwise_g atomic_g if_g while_g loop_g statement_g variables_g argument_g signature_g method_body_g contents_g method_g methods_g structure_line_g declarations_g conditions_g text_g rules
flats condition = refl
flats start_items = refl
flats argument = refl
flats method_body = refl
flats statements = refl
flats block = refl
flats tests = refl

pub text_rules : Decided rules
text_rules = record { decided = decided; some = λ n. flat_taken rules (rules n) (flats n) (decided n) }

-- the grammar of texts has a verdict on every list of tokens
pub text_law : (l : ℕ) → Law rules l text_g
text_law l = law_of rules text_rules l text_g text_decides

-- a statement has at least one token
pub statement_needs : not (nullable statement_g) ≡ true
unfolding statement_g assignment_g atomic_g node_line_g if_g while_g loop_g word_line_g return_line_g
statement_needs = refl

statement_decides : decides rules statement_g ≡ true
unfolding reference_g field_g truth_g node_operand_g operand_g atom_end_g atom_g negation_g group_g literal_g conjunction_g condition_g flag_g direction_g pointer_g root_g start_key_g start_key_line_g start_value_g start_item_g start_items_g start_g condition_line_g named_condition_g assigned_node_g assigned_g assignment_g negated_test_g test_g inner_tests_g tests_g with_line_g test_line_g selection_g bind_g written_g write_g block_g braced_block_g node_line_g word_line_g return_line_g body_g otherwise_g atomic_g if_g while_g loop_g statement_g variables_g argument_g signature_g method_body_g contents_g method_g methods_g structure_line_g declarations_g conditions_g text_g rules
statement_decides = refl

pub statement_grammar_law : (l : ℕ) → Law rules l statement_g
statement_grammar_law l = law_of rules text_rules l statement_g statement_decides

-- the end makes no text longer
pub end_ends_text : member (class_of kind.End) (goes_on text_g) ≡ false
unfolding reference_g field_g truth_g node_operand_g operand_g atom_end_g atom_g negation_g group_g literal_g conjunction_g condition_g flag_g direction_g pointer_g root_g start_key_g start_key_line_g start_value_g start_item_g start_items_g start_g condition_line_g named_condition_g assigned_node_g assigned_g assignment_g negated_test_g test_g inner_tests_g tests_g with_line_g test_line_g selection_g bind_g written_g write_g block_g braced_block_g node_line_g word_line_g return_line_g body_g otherwise_g atomic_g if_g while_g loop_g statement_g variables_g argument_g signature_g method_body_g contents_g method_g methods_g structure_line_g declarations_g conditions_g text_g rules
end_ends_text = refl
