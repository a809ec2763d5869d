-- No text has `!` before `=` or `==`.
use Rattle.std.proofs.Common.{◌≡◌, true, false, List, [], ◌++◌, Option, refl, subst, append-nil}
use Rattle.plank_base.specs.declared.places.Place.{Place}
use Rattle.plank_lex.specs.declared.symbols.Symbol.TheVariants as symbol
use Rattle.plank_lex.specs.declared.words.Reserved.{Reserved}
use Rattle.plank_lex.specs.declared.words.Reserved.TheVariants as word
use Rattle.plank_ast.specs.declared.names.Name.{Name}
use Rattle.plank_ast.specs.declared.header.FlagLine.{FlagLine}
use Rattle.plank_ast.specs.declared.header.PointerLine.{PointerLine}
use Rattle.plank_ast.specs.declared.header.RootLine.{RootLine}
use Rattle.plank_ast.specs.declared.header.StartKey.{StartKey}
use Rattle.plank_ast.specs.declared.header.StartValue.{StartValue}
use Rattle.plank_ast.specs.declared.header.StartItem.{StartItem}
use Rattle.plank_ast.specs.declared.header.StartLine.{StartLine}
use Rattle.plank_ast.specs.declared.header.ConditionLine.{ConditionLine}
use Rattle.plank_ast.specs.declared.header.NamedCondition.{NamedCondition}
use Rattle.plank_ast.specs.declared.methods.Variables.{Variables}
use Rattle.plank_ast.specs.declared.methods.Method.{Method}
use Rattle.plank_ast.specs.declared.methods.Methods.{Methods}
use Rattle.plank_ast.specs.declared.texts.Text.{Text}
use Rattle.plank_ast.specs.Spelling.{Spelling, keyword, name_tokens, flag_tokens, direction_word, pointer_tokens, root_tokens, start_key_word, start_value_tokens, start_item_tokens, start_key_tokens, start_tokens, condition_line_tokens, named_condition_tokens, variables_tokens, signature_tokens, method_tokens, methods_tokens, declarations_tokens, conditions_tokens, statement_tokens, word_line_tokens}
use Rattle.plank_ast.specs.Texts.{text_tokens}
use Rattle.plank_ast.proofs.Apart.{Apart, keeps_apart, sign, reserved, both, perhaps, every, every_after}
use Rattle.plank_ast.proofs.ConditionsApart.{name_apart, condition_apart}
use Rattle.plank_ast.proofs.StatementsApart.{truth_apart, word_line_apart, statement_apart}

-- ---- the header

flag_apart : (f : FlagLine) → Apart (flag_tokens f)
flag_apart f = both (both (reserved word.Flag) (name_apart f.name)) (sign symbol.Semicolon refl)

pointer_apart : (p : PointerLine) → Apart (pointer_tokens p)
pointer_apart p = both (both (both (reserved word.Pointer) (name_apart p.name)) (reserved (direction_word p.direction))) (sign symbol.Semicolon refl)

root_apart : (r : RootLine) → Apart (root_tokens r)
root_apart r = both (both (reserved word.Root) (name_apart r.name)) (sign symbol.Semicolon refl)

value_apart : (v : StartValue) → Apart (start_value_tokens v)
value_apart (StartValue.Flag truth) = truth_apart truth
value_apart (StartValue.Null place) = reserved word.Null
value_apart (StartValue.Node name) = name_apart name

item_apart : (i : StartItem) → Apart (start_item_tokens i)
item_apart i = both (both (both (name_apart i.field) (sign symbol.Assign refl)) (value_apart i.value)) (sign symbol.Semicolon refl)

key_apart : (key : StartKey) → Apart (start_key_tokens key)
key_apart key = both (both (both (reserved word.Key) (sign symbol.Assign refl)) (reserved (start_key_word key))) (sign symbol.Semicolon refl)

start_apart : (s : StartLine) → Apart (start_tokens s)
start_apart s =
    both (both (both (both (both (reserved word.Start) (name_apart s.name)) (sign symbol.OpenBrace refl)) (key_apart s.key)) (every start_item_tokens item_apart s.items))
    (sign symbol.CloseBrace refl)

line_apart : (r : Reserved) (c : ConditionLine) → Apart (condition_line_tokens r c)
line_apart r c = both (both (reserved r) (condition_apart c.condition)) (sign symbol.Semicolon refl)

named_apart : (r : Reserved) (c : NamedCondition) → Apart (named_condition_tokens r c)
named_apart r c =
    both (both (both (both (reserved r) (name_apart c.name)) (sign symbol.Colon refl)) (condition_apart c.condition)) (sign symbol.Semicolon refl)

-- ---- methods

variables_apart : (v : Variables) → Apart (variables_tokens v)
variables_apart v =
    both (both (both (reserved word.Variable) (name_apart v.first)) (every_after symbol.Comma refl name_tokens name_apart v.others)) (sign symbol.Semicolon refl)

signature_apart : (name : Name) (purpose : Option Name) (argument : Name) → Apart (signature_tokens name purpose argument)
signature_apart name purpose argument =
    both (both (both (both (both (reserved word.Method) (name_apart name)) (perhaps (λ k. keyword word.As ++ name_tokens k) (λ k. both (reserved word.As) (name_apart k)) purpose)) (sign symbol.OpenParenthesis refl)) (name_apart argument))
    (sign symbol.CloseParenthesis refl)

method_apart : (m : Method) → Apart (method_tokens m)
method_apart m =
    both (both (both (both (signature_apart m.name m.kind m.argument) (sign symbol.OpenBrace refl)) (perhaps variables_tokens variables_apart m.variables)) (every statement_tokens statement_apart m.statements))
    (sign symbol.CloseBrace refl)

methods_apart : (m : Methods) → Apart (methods_tokens m)
methods_apart m = both (method_apart m.first) (every method_tokens method_apart m.others)

-- ---- the text

declarations_apart : (structure : Name) (flags : List FlagLine) (pointers : List PointerLine) (lock : Option Place) (roots : List RootLine) (starts : List StartLine) → Apart (declarations_tokens structure flags pointers lock roots starts)
declarations_apart structure flags pointers lock roots starts =
    both (both (both (both (both (both (both (reserved word.Structure) (name_apart structure)) (sign symbol.Semicolon refl)) (every flag_tokens flag_apart flags)) (every pointer_tokens pointer_apart pointers)) (perhaps (λ place. word_line_tokens word.Lock) (λ place. word_line_apart word.Lock) lock)) (every root_tokens root_apart roots))
    (every start_tokens start_apart starts)

conditions_apart : (edges : List NamedCondition) (holds : ConditionLine) (keeps : List NamedCondition) (freeze : Option ConditionLine) → Apart (conditions_tokens edges holds keeps freeze)
conditions_apart edges holds keeps freeze =
    both (both (both (every (named_condition_tokens word.Edge) (named_apart word.Edge) edges) (line_apart word.Holds holds)) (every (named_condition_tokens word.Keep) (named_apart word.Keep) keeps))
    (perhaps (condition_line_tokens word.Freeze) (line_apart word.Freeze) freeze)

text_apart : (t : Text) → Apart (text_tokens t)
text_apart t =
    both (both (declarations_apart t.structure t.flags t.pointers t.lock t.roots t.starts) (conditions_apart t.edges t.holds t.keeps t.freeze)) (methods_apart t.methods)

-- no text has `!` before `=` or `==`
pub text_keeps_apart : (t : Text) → keeps_apart false (text_tokens t) ≡ true
text_keeps_apart t = subst (λ (ks : Spelling). keeps_apart false ks ≡ true) (append-nil (text_tokens t)) ((text_apart t).before [] refl)
