-- The readers of methods and texts follow the grammar.
use Rattle.std.proofs.Common.{◌≡◌, ℕ, suc, [], ◌∷◌, ◌++◌, Option, Some, None, refl, ap, sym, ◌∙◌, append_assoc}
use Rattle.std.specs.List.{flat_map}
use Rattle.std.specs.Option.{option_map_or}
use Rattle.plank_base.specs.declared.places.Place.{Place}
use Rattle.plank_lex.specs.declared.symbols.Symbol.TheVariants as symbol
use Rattle.plank_lex.specs.declared.words.Reserved.{Reserved}
use Rattle.plank_lex.specs.declared.words.Reserved.TheVariants as word
use Rattle.plank_lex.specs.declared.tokens.TokenKind.TheVariants as kind
use Rattle.plank_ast.specs.declared.names.Name.{Name}
use Rattle.plank_ast.specs.declared.methods.Variables.{Variables}
use Rattle.plank_ast.specs.Spelling.{Spelling, mark, keyword, name_tokens, flag_tokens, pointer_tokens, root_tokens, start_tokens, condition_line_tokens, named_condition_tokens, statement_tokens, word_line_tokens, variables_tokens, signature_tokens, method_tokens, methods_tokens, declarations_tokens, conditions_tokens}
use Rattle.plank_parse.specs.declared.pieces.Signature.{Signature}
use Rattle.plank_parse.specs.declared.pieces.Contents.{Contents}
use Rattle.plank_parse.specs.declared.pieces.Declarations.{Declarations}
use Rattle.plank_parse.specs.declared.pieces.Conditions.{Conditions}
use Rattle.plank_parse.specs.Readers.{name, optional, behind, many_from}
use Rattle.plank_parse.specs.Header.{flag, pointer, root, start}
use Rattle.plank_parse.specs.Texts.{variables, argument, signature, lock_line, structure_line, declarations, Parts, parts_spelling, joined}
use Rattle.plank_parse.proofs.Grammars.{symbol_class, word_class, reads, both, many as many_of, then_on, read_one}
use Rattle.plank_parse.proofs.TextGrammar.{rules, reserved, perhaps, a_name, flag_g, pointer_g, root_g, start_g, condition_line_g, named_condition_g, word_line_g, variables_g, argument_g, signature_g, method_body_g, contents_g, method_g, methods_g, structure_line_g, declarations_g, conditions_g, text_g}
use Rattle.plank_parse.proofs.Follows.{Follows, Says, step, step_in, finish, symbol_law, symbol_test, word_law, word_test, name_law, end_law, many_law, behind_law, optional_law}
use Rattle.plank_parse.proofs.ConditionRules.{condition_law}
use Rattle.plank_parse.proofs.HeaderRules.{flag_law, pointer_law, root_law, start_law}
use Rattle.plank_parse.proofs.StatementRules.{body_law, statements_law}
use Rattle.plank_parse.specs.Statements.{body}
use Rattle.plank_parse.proofs.Leveled.{condition_line_at, named_condition_at, contents_at, method_at, methods_at, conditions_at, text_at}

-- ---- methods

variables_law : (l : ℕ) → Follows (reads rules l variables_g) variables (Says variables_tokens)
unfolding variables variables_g
variables_law l =
    step _ _ _ _ _ _ (word_law word.Variable) (λ place. step _ _ _ _ _ _ name_law (λ first. step _ _ _ _ _ _
    (many_law _ _ (symbol_class symbol.Comma ∷ []) _ _ (symbol_test symbol.Comma) (behind_law _ _ (kind.Symbol symbol.Comma) _ _ (symbol_law symbol.Comma) name_law)) (λ others.
    finish _ _ (λ end. record { place = place; first = first; others = others }) _ _ (symbol_law symbol.Semicolon) (λ end. refl))))

abbrev pub argument_tokens : Name → Spelling
argument_tokens n = mark symbol.OpenParenthesis ++ (name_tokens n ++ mark symbol.CloseParenthesis)

argument_law : (l : ℕ) → Follows (reads rules (suc l) argument_g) argument (Says argument_tokens)
unfolding argument argument_g rules
argument_law l =
    step _ _ _ _ _ _ (symbol_law symbol.OpenParenthesis) (λ opened. step _ _ _ _ _ _ name_law (λ found.
    finish _ _ (λ close. found) _ _ (symbol_law symbol.CloseParenthesis) (λ close. refl)))

abbrev pub kind_tokens : Name → Spelling
kind_tokens k = keyword word.As ++ name_tokens k

purpose_law : (l : ℕ) → Follows (reads rules l (perhaps (both (reserved word.As) a_name))) (optional (kind.Reserved word.As) (behind (kind.Reserved word.As) name)) (Says (λ (o : Option Name). option_map_or kind_tokens o []))
purpose_law l = optional_law _ (kind.Reserved word.As) (word_class word.As ∷ []) _ _ (word_test word.As) (behind_law _ _ (kind.Reserved word.As) _ _ (word_law word.As) name_law)

abbrev head_tokens : Signature → Spelling
head_tokens s = signature_tokens s.name s.kind s.argument

pub signature_spelled : (own : Name) (purpose : Option Name) (found : Name) → keyword word.Method ++ (name_tokens own ++ (option_map_or kind_tokens purpose [] ++ argument_tokens found)) ≡ signature_tokens own purpose found
signature_spelled own None found = refl
signature_spelled own (Some k) found = refl

signature_law : (l : ℕ) → Follows (reads rules (suc l) signature_g) signature (Says head_tokens)
unfolding signature signature_g
signature_law l =
    step _ _ _ _ _ _ (word_law word.Method) (λ place. step _ _ _ _ _ _ name_law (λ own. step _ _ _ _ _ _ (purpose_law (suc l)) (λ purpose.
    finish _ _ (λ found. record { place = place; name = own; kind = purpose; argument = found }) _ _ (argument_law l) (λ found. signature_spelled own purpose found))))

abbrev contents_tokens : Contents → Spelling
contents_tokens c = mark symbol.OpenBrace ++ (option_map_or variables_tokens c.variables [] ++ (flat_map statement_tokens c.statements ++ mark symbol.CloseBrace))

perhaps_variables : (l : ℕ) → Follows (reads rules l (perhaps variables_g)) (optional (kind.Reserved word.Variable) variables) (Says (λ (o : Option Variables). option_map_or variables_tokens o []))
unfolding variables_g
perhaps_variables l = optional_law _ (kind.Reserved word.Variable) (word_class word.Variable ∷ []) _ _ (word_test word.Variable) (variables_law l)

contents_law : (l : ℕ) → Follows (reads rules (suc l) contents_g) (contents_at l) (Says contents_tokens)
unfolding contents_at contents_g method_body_g rules
contents_law l =
    step _ _ _ _ _ _ (symbol_law symbol.OpenBrace) (λ opened. step_in _ _ _ _ _ _ _ (perhaps_variables l) (λ found.
    statements_law l (body l) (body_law l) (λ parts p. record { variables = found; statements = parts; end = p }) _ (λ parts p. refl)))

pub method_spelled : (head : Spelling) (own : Spelling) (parts : Spelling) → head ++ (mark symbol.OpenBrace ++ (own ++ (parts ++ mark symbol.CloseBrace))) ≡ head ++ mark symbol.OpenBrace ++ own ++ parts ++ mark symbol.CloseBrace
method_spelled head own parts = sym
    (append_assoc (head ++ mark symbol.OpenBrace ++ own) parts (mark symbol.CloseBrace)
    ∙ (append_assoc (head ++ mark symbol.OpenBrace) own (parts ++ mark symbol.CloseBrace)
    ∙ append_assoc head (mark symbol.OpenBrace) (own ++ (parts ++ mark symbol.CloseBrace))))

method_law : (l : ℕ) → Follows (reads rules (suc l) method_g) (method_at l) (Says method_tokens)
unfolding method_at method_g
method_law l =
    step _ _ _ _ _ _ (signature_law l) (λ head.
    finish _ _ (λ inner. record { place = head.place; name = head.name; kind = head.kind; argument = head.argument; variables = inner.variables; statements = inner.statements; end = inner.end }) _ _ (contents_law l)
    (λ inner. method_spelled (head_tokens head) (option_map_or variables_tokens inner.variables []) (flat_map statement_tokens inner.statements)))

more_methods_law : (l : ℕ) → Follows (reads rules (suc l) (many_of method_g)) (many_from (kind.Reserved word.Method) (method_at l)) (Says (flat_map method_tokens))
unfolding method_g signature_g
more_methods_law l = many_law _ _ (word_class word.Method ∷ []) _ _ (word_test word.Method) (method_law l)

methods_law : (l : ℕ) → Follows (reads rules (suc l) methods_g) (methods_at l) (Says methods_tokens)
unfolding methods_at methods_g
methods_law l = step _ _ _ _ _ _ (method_law l) (λ first. finish _ _ (λ others. record { first = first; others = others }) _ _ (more_methods_law l) (λ others. refl))

-- ---- the header

lock_law : (l : ℕ) → Follows (reads rules l (word_line_g word.Lock)) lock_line (Says (λ (p : Place). word_line_tokens word.Lock))
unfolding lock_line word_line_g
lock_law l = step _ _ _ _ _ _ (word_law word.Lock) (λ place. finish _ _ (λ end. place) _ _ (symbol_law symbol.Semicolon) (λ end. refl))

perhaps_lock : (l : ℕ) → Follows (reads rules l (perhaps (word_line_g word.Lock))) (optional (kind.Reserved word.Lock) lock_line) (Says (λ (o : Option Place). option_map_or (λ place. word_line_tokens word.Lock) o []))
unfolding word_line_g
perhaps_lock l = optional_law _ (kind.Reserved word.Lock) (word_class word.Lock ∷ []) _ _ (word_test word.Lock) (lock_law l)

abbrev structure_tokens : Place × Name → Spelling
structure_tokens head = keyword word.Structure ++ name_tokens head.1 ++ mark symbol.Semicolon

structure_law : (l : ℕ) → Follows (reads rules l structure_line_g) structure_line (Says structure_tokens)
unfolding structure_line structure_line_g
structure_law l =
    step _ _ _ _ _ _ (word_law word.Structure) (λ place. step _ _ _ _ _ _ name_law (λ own.
    finish _ _ (λ end. (place, own)) _ _ (symbol_law symbol.Semicolon) (λ end. refl)))

flags_law : (l : ℕ) → Follows (reads rules l (many_of flag_g)) (many_from (kind.Reserved word.Flag) flag) (Says (flat_map flag_tokens))
unfolding flag_g
flags_law l = many_law _ _ (word_class word.Flag ∷ []) _ _ (word_test word.Flag) (flag_law l)

pointers_law : (l : ℕ) → Follows (reads rules l (many_of pointer_g)) (many_from (kind.Reserved word.Pointer) pointer) (Says (flat_map pointer_tokens))
unfolding pointer_g
pointers_law l = many_law _ _ (word_class word.Pointer ∷ []) _ _ (word_test word.Pointer) (pointer_law l)

roots_law : (l : ℕ) → Follows (reads rules l (many_of root_g)) (many_from (kind.Reserved word.Root) root) (Says (flat_map root_tokens))
unfolding root_g
roots_law l = many_law _ _ (word_class word.Root ∷ []) _ _ (word_test word.Root) (root_law l)

starts_law : (l : ℕ) → Follows (reads rules (suc l) (many_of start_g)) (many_from (kind.Reserved word.Start) start) (Says (flat_map start_tokens))
unfolding start_g
starts_law l = many_law _ _ (word_class word.Start ∷ []) _ _ (word_test word.Start) (start_law l)

abbrev declared_tokens : Declarations → Spelling
declared_tokens d = declarations_tokens d.structure d.flags d.pointers d.lock d.roots d.starts

five_lists : (a b c d e : Spelling) → a ++ (b ++ (c ++ (d ++ e))) ≡ (((a ++ b) ++ c) ++ d) ++ e
five_lists a b c d e = simp append_assoc

pub declared_spelled : (own : Name) (a b c d e : Spelling) → (keyword word.Structure ++ name_tokens own ++ mark symbol.Semicolon) ++ (a ++ (b ++ (c ++ (d ++ e)))) ≡ keyword word.Structure ++ name_tokens own ++ mark symbol.Semicolon ++ a ++ b ++ c ++ d ++ e
declared_spelled own a b c d e = ap (λ (ks : Spelling). kind.Reserved word.Structure ∷ kind.Name own.label ∷ kind.Symbol symbol.Semicolon ∷ ks) (five_lists a b c d e)

declarations_law : (l : ℕ) → Follows (reads rules (suc l) declarations_g) declarations (Says declared_tokens)
unfolding declarations declarations_g
declarations_law l =
    step _ _ _ _ _ _ (structure_law (suc l)) (λ head. step _ _ _ _ _ _ (flags_law (suc l)) (λ flags. step _ _ _ _ _ _ (pointers_law (suc l)) (λ pointers.
    step _ _ _ _ _ _ (perhaps_lock (suc l)) (λ lock. step _ _ _ _ _ _ (roots_law (suc l)) (λ roots.
    finish _ _ (λ starts. record { place = head.0; structure = head.1; flags = flags; pointers = pointers; lock = lock; roots = roots; starts = starts }) _ _ (starts_law l)
    (λ starts. declared_spelled head.1 (flat_map flag_tokens flags) (flat_map pointer_tokens pointers) (option_map_or (λ place. word_line_tokens word.Lock) lock []) (flat_map root_tokens roots) (flat_map start_tokens starts)))))))

condition_line_law : (l : ℕ) (r : Reserved) → Follows (reads rules l (condition_line_g r)) (condition_line_at l r) (Says (condition_line_tokens r))
unfolding condition_line_at condition_line_g
condition_line_law l r =
    step _ _ _ _ _ _ (word_law r) (λ place. step _ _ _ _ _ _ (condition_law l) (λ found.
    finish _ _ (λ end. record { place = place; condition = found }) _ _ (symbol_law symbol.Semicolon) (λ end. refl)))

named_condition_law : (l : ℕ) (r : Reserved) → Follows (reads rules l (named_condition_g r)) (named_condition_at l r) (Says (named_condition_tokens r))
unfolding named_condition_at named_condition_g
named_condition_law l r =
    step _ _ _ _ _ _ (word_law r) (λ place. step _ _ _ _ _ _ name_law (λ own. step _ _ _ _ _ _ (symbol_law symbol.Colon) (λ colon. step _ _ _ _ _ _ (condition_law l) (λ found.
    finish _ _ (λ end. record { place = place; name = own; condition = found }) _ _ (symbol_law symbol.Semicolon) (λ end. refl)))))

named_conditions_law : (l : ℕ) (r : Reserved) → Follows (reads rules l (many_of (named_condition_g r))) (many_from (kind.Reserved r) (named_condition_at l r)) (Says (flat_map (named_condition_tokens r)))
unfolding named_condition_g
named_conditions_law l r = many_law _ _ (word_class r ∷ []) _ _ (word_test r) (named_condition_law l r)

perhaps_condition : (l : ℕ) (r : Reserved) → Follows (reads rules l (perhaps (condition_line_g r))) (optional (kind.Reserved r) (condition_line_at l r)) (Says (λ o. option_map_or (condition_line_tokens r) o []))
unfolding condition_line_g
perhaps_condition l r = optional_law _ (kind.Reserved r) (word_class r ∷ []) _ _ (word_test r) (condition_line_law l r)

abbrev stated_tokens : Conditions → Spelling
stated_tokens c = conditions_tokens c.edges c.holds c.keeps c.freeze

pub four_lists : (a b c d : Spelling) → a ++ (b ++ (c ++ d)) ≡ ((a ++ b) ++ c) ++ d
four_lists a b c d = simp append_assoc

conditions_law : (l : ℕ) → Follows (reads rules l conditions_g) (conditions_at l) (Says stated_tokens)
unfolding conditions_at conditions_g
conditions_law l =
    step _ _ _ _ _ _ (named_conditions_law l word.Edge) (λ edges. step _ _ _ _ _ _ (condition_line_law l word.Holds) (λ holds. step _ _ _ _ _ _ (named_conditions_law l word.Keep) (λ keeps.
    finish _ _ (λ freeze. record { edges = edges; holds = holds; keeps = keeps; freeze = freeze }) _ _ (perhaps_condition l word.Freeze)
    (λ freeze. four_lists (flat_map (named_condition_tokens word.Edge) edges) (condition_line_tokens word.Holds holds) (flat_map (named_condition_tokens word.Keep) keeps) (option_map_or (condition_line_tokens word.Freeze) freeze [])))))

-- ---- whole texts

-- a text's parts, with the end
abbrev pub WholeText : Parts → Spelling → Type 0
WholeText p ks = ks ≡ parts_spelling p ++ kind.End ∷ []

four_left : (a b c d : Spelling) → a ++ (b ++ (c ++ d)) ≡ ((a ++ b) ++ c) ++ d
four_left a b c d = simp append_assoc

pub text_follows : (l : ℕ) → Follows (λ ks. then_on (reads rules (suc l) text_g ks) (read_one 61)) (text_at l) WholeText
unfolding text_at text_g
text_follows l =
    step_in _ _ _ _ _ _ _ (declarations_law l) (λ declared. step_in _ _ _ _ _ _ _ (conditions_law (suc l)) (λ stated. step _ _ _ _ _ _ (methods_law l) (λ found.
    finish _ _ (λ end. joined declared stated found) _ _ end_law (λ end. four_left (declared_tokens declared) (stated_tokens stated) (methods_tokens found) (kind.End ∷ [])))))
