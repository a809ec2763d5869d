-- No variable of a text is spelled as `root` is, since names are no reserved words.
use Rattle.std.proofs.Common.{◌≡◌, ℕ, true, false, List, [], ◌∷◌, ◌++◌, Option, Some, None, refl, sym, ◌∙◌, ap}
use Rattle.std.specs.List.{list_all, flat_map}
use Rattle.std.specs.Option.{option_map_or}
use Rattle.std.specs.Cmp.{first_so, second_so}
use Rattle.std.proofs.lemmas.List.Folds.{list_all-append}
use Rattle.plank_base.specs.declared.limits.TheConstants.{NESTING_LIMIT}
use Rattle.plank_lex.specs.declared.words.Reserved.TheVariants as word
use Rattle.plank_lex.specs.declared.symbols.Symbol.TheVariants as symbol
use Rattle.plank_lex.specs.Spelling.{word_of, is_name, reserved_of}
use Rattle.plank_ast.specs.declared.names.Name.{Name}
use Rattle.plank_ast.specs.declared.methods.Variables.{Variables}
use Rattle.plank_ast.specs.declared.methods.Method.{Method}
use Rattle.plank_ast.specs.declared.texts.Text.{Text}
use Rattle.plank_ast.specs.Spelling.{Spelling, mark, more_name_tokens, variables_tokens, signature_tokens, statement_tokens, method_tokens, methods_tokens, declarations_tokens, conditions_tokens, may_stand, nests_within}
use Rattle.plank_ast.specs.Texts.{text_tokens}
use Rattle.plank_rules.specs.Declarations.{same_name, is_among, labels, variable_line, variables_of, methods_of}
use Rattle.plank_type.proofs.Tests.{and_so, or_neither}
use Rattle.plank_type.proofs.Distinct.{same_names}
use Rattle.plank_type.proofs.Tests.{false_if}

-- ---- parts of a spelling

stand_left : (xs ys : Spelling) → list_all may_stand (xs ++ ys) ≡ true → list_all may_stand xs ≡ true
stand_left xs ys h = first_so (list_all may_stand xs) (list_all may_stand ys) (sym (list_all-append may_stand xs ys) ∙ h)

stand_right : (xs ys : Spelling) → list_all may_stand (xs ++ ys) ≡ true → list_all may_stand ys ≡ true
stand_right xs ys h = second_so (list_all may_stand xs) (list_all may_stand ys) (sym (list_all-append may_stand xs ys) ∙ h)

-- ---- names

root_is_no_name : is_name (word_of word.Root) ≡ false
unfolding reserved_of
root_is_no_name = refl

not_root : (n : List ℕ) → is_name n ≡ true → same_name (word_of word.Root) n ≡ false
not_root n h =
    false_if (same_name (word_of word.Root) n)
    (λ e. e ∙ sym h ∙ ap is_name (sym (same_names (word_of word.Root) n e)) ∙ root_is_no_name)

no_root_among : (names : List (List ℕ)) → list_all is_name names ≡ true → is_among names (word_of word.Root) ≡ false
no_root_among [] h = refl
no_root_among (n ∷ ns) h =
    or_neither (same_name (word_of word.Root) n) (is_among ns (word_of word.Root))
    (not_root n (first_so (is_name n) (list_all is_name ns) h)) (no_root_among ns (second_so (is_name n) (list_all is_name ns) h))

-- ---- the variables of a method

others_are_names : (names : List Name) → list_all may_stand (more_name_tokens names) ≡ true → list_all is_name (labels names) ≡ true
others_are_names [] h = refl
others_are_names (n ∷ ns) h =
    and_so (is_name n.label) (list_all is_name (labels ns))
    (first_so (is_name n.label) (list_all may_stand (more_name_tokens ns)) h)
    (others_are_names ns (second_so (is_name n.label) (list_all may_stand (more_name_tokens ns)) h))

line_is_names : (line : Option Variables) → list_all may_stand (option_map_or variables_tokens line []) ≡ true → list_all is_name (labels (option_map_or variable_line line [])) ≡ true
line_is_names None h = refl
line_is_names (Some v) h =
    let more = more_name_tokens v.others in
    and_so (is_name v.first.label) (list_all is_name (labels v.others))
    (first_so (is_name v.first.label) (list_all may_stand (more ++ mark symbol.Semicolon)) h)
    (others_are_names v.others (stand_left more (mark symbol.Semicolon) (second_so (is_name v.first.label) (list_all may_stand (more ++ mark symbol.Semicolon)) h)))

-- no variable of a method whose tokens may stand is `root`
pub no_root : (m : Method) → list_all may_stand (method_tokens m) ≡ true → is_among (variables_of m) (word_of word.Root) ≡ false
no_root m h =
    let before = signature_tokens m.name m.kind m.argument ++ mark symbol.OpenBrace in
    let line = option_map_or variables_tokens m.variables [] in
    let inner = flat_map statement_tokens m.statements in
    no_root_among (variables_of m)
    (line_is_names m.variables (stand_right before line (stand_left (before ++ line) inner (stand_left (before ++ line ++ inner) (mark symbol.CloseBrace) h))))

-- ---- the methods of a text

-- the tokens of the methods of a text may stand
pub methods_stand : (t : Text) → list_all may_stand (flat_map method_tokens (methods_of t)) ≡ true
methods_stand t =
    let before = declarations_tokens t.structure t.flags t.pointers t.lock t.roots t.starts ++ conditions_tokens t.edges t.holds t.keeps t.freeze in
    stand_right before (methods_tokens t.methods)
    (first_so (list_all may_stand (text_tokens t)) (nests_within NESTING_LIMIT 0 (text_tokens t)) t.lawful)

pub first_stands : (m : Method) (ms : List Method) → list_all may_stand (flat_map method_tokens (m ∷ ms)) ≡ true → list_all may_stand (method_tokens m) ≡ true
first_stands m ms h = stand_left (method_tokens m) (flat_map method_tokens ms) h

pub others_stand : (m : Method) (ms : List Method) → list_all may_stand (flat_map method_tokens (m ∷ ms)) ≡ true → list_all may_stand (flat_map method_tokens ms) ≡ true
others_stand m ms h = stand_right (method_tokens m) (flat_map method_tokens ms) h
