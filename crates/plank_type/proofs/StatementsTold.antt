-- The statements of a method that break no rule of typing are told whole, by induction over statements.
use Rattle.std.proofs.Common.{◌≡◌, true, ◌&&◌, Bool, List, [], ◌∷◌, ◌++◌, map, refl, sym, ◌∙◌, subst}
use Rattle.std.specs.List.{list_all, flat_map}
use Rattle.plank_ast.specs.declared.statements.Statement.{Statement}
use Rattle.plank_ast.specs.declared.statements.Body.{Body}
use Rattle.plank_ast.specs.declared.statements.Else.{Else}
use Rattle.plank_ast.specs.declared.statements.Else.TheOpen.{Else-F, Statement-F, Body-F}
use Rattle.plank_ast.specs.declared.statements.Else.TheViews.{roll-Else, roll-Statement, roll-Body}
use Rattle.plank_ast.specs.declared.statements.Else.TheFolds.{map-Else, map-Statement, map-Body, fold-roll-Else, fold-roll-Statement, fold-roll-Body, ind-Statement}
use Rattle.plank_ast.specs.declared.methods.Method.{Method}
use Rattle.plank_prog.specs.Conditions.{all_true}
use Rattle.plank_rules.specs.declared.broken.Broken.{Broken}
use Rattle.plank_rules.specs.declared.names.Declared.{Declared}
use Rattle.plank_rules.specs.StatementRules.{tests_rules, block_rules, else_layer as rules_in_else, statement_layer as rules_in_statement, body_layer as rules_in_body, statement_rules, body_rules, else_rules}
use Rattle.plank_rules.specs.MethodRules.{method_scope}
use Rattle.plank_type.specs.Told.{locals_of, block_is_told, tests_are_told, body_told, else_told, statement_told, statement_is_told, body_is_told, else_is_told}
use Rattle.plank_type.proofs.Tests.{and_so, left_none, right_none}
use Rattle.plank_type.proofs.BlocksTold.{all_told, tests_told, block_told, assignment_told, lock_told}

module _ (m : Method) (names : Declared) where
  abbrev rules_of : Statement → List Broken
  rules_of s = statement_rules names (method_scope m) s

  abbrev rules_of_body : Body → List Broken
  rules_of_body b = body_rules names (method_scope m) b

  abbrev rules_of_else : Else → List Broken
  rules_of_else e = else_rules names (method_scope m) e

  abbrev told : Statement → Bool
  told s = statement_is_told names (locals_of m) s

  abbrev told_body : Body → Bool
  told_body b = body_is_told names (locals_of m) b

  abbrev told_else : Else → Bool
  told_else e = else_is_told names (locals_of m) e

  -- what is told where these rules are not broken
  abbrev Told : List Broken → Bool → Type 0
  Told broken is_told = broken ≡ [] → is_told ≡ true

  abbrev ToldStatement : Type 0
  ToldStatement = (s : Statement) × Told (rules_of s) (told s)

  abbrev ToldBody : Type 0
  ToldBody = (b : Body) × Told (rules_of_body b) (told_body b)

  abbrev ToldElse : Type 0
  ToldElse = (e : Else) × Told (rules_of_else e) (told_else e)

  list_told : (es : List ToldStatement) → flat_map (λ rules. rules) (map rules_of (map (λ e. e.0) es)) ≡ [] → all_true (map told (map (λ e. e.0) es)) ≡ true
  list_told [] none = refl
  list_told (e ∷ es) none =
      let rest = flat_map (λ rules. rules) (map rules_of (map (λ d. d.0) es)) in
      and_so (told e.0) (all_true (map told (map (λ d. d.0) es))) (e.1 (left_none (rules_of e.0) rest none)) (list_told es (right_none (rules_of e.0) rest none))

  abbrev plain_else : Else-F ToldElse ToldStatement ToldBody → Else-F Else Statement Body
  plain_else y = map-Else ToldElse ToldStatement ToldBody Else Statement Body (λ e. e.0) (λ e. e.0) (λ e. e.0) y

  abbrev plain_statement : Statement-F ToldElse ToldStatement ToldBody → Statement-F Else Statement Body
  plain_statement y = map-Statement ToldElse ToldStatement ToldBody Else Statement Body (λ e. e.0) (λ e. e.0) (λ e. e.0) y

  abbrev plain_body : Body-F ToldElse ToldStatement ToldBody → Body-F Else Statement Body
  plain_body y = map-Body ToldElse ToldStatement ToldBody Else Statement Body (λ e. e.0) (λ e. e.0) (λ e. e.0) y

  -- the rules of one layer, and whether it is told
  abbrev else_broken : Else-F Else Statement Body → List Broken
  else_broken z = rules_in_else (map-Else Else Statement Body (List Broken) (List Broken) (List Broken) rules_of_else rules_of rules_of_body z)

  abbrev else_is : Else-F Else Statement Body → Bool
  else_is z = else_told (map-Else Else Statement Body Bool Bool Bool told_else told told_body z)

  abbrev statement_broken : Statement-F Else Statement Body → List Broken
  statement_broken z = rules_in_statement names (method_scope m) (map-Statement Else Statement Body (List Broken) (List Broken) (List Broken) rules_of_else rules_of rules_of_body z)

  abbrev statement_is : Statement-F Else Statement Body → Bool
  statement_is z = statement_told names (locals_of m) (map-Statement Else Statement Body Bool Bool Bool told_else told told_body z)

  abbrev body_broken : Body-F Else Statement Body → List Broken
  body_broken z = rules_in_body (map-Body Else Statement Body (List Broken) (List Broken) (List Broken) rules_of_else rules_of rules_of_body z)

  abbrev body_is : Body-F Else Statement Body → Bool
  body_is z = body_told (map-Body Else Statement Body Bool Bool Bool told_else told told_body z)

  else_layer : (y : Else-F ToldElse ToldStatement ToldBody) → Told (else_broken (plain_else y)) (else_is (plain_else y))
  else_layer Else-F.Nothing none = refl
  else_layer (Else-F.Body p body) none = body.1 none

  statement_layer : (y : Statement-F ToldElse ToldStatement ToldBody) → Told (statement_broken (plain_statement y)) (statement_is (plain_statement y))
  statement_layer (Statement-F.Assign variable value) none = assignment_told m names variable value none
  statement_layer (Statement-F.Atomic p tree otherwise) none =
      let block = block_rules names (method_scope m) tree in
      and_so (block_is_told names (locals_of m) tree) (told_else otherwise.0)
      (block_told m names tree (left_none block (rules_of_else otherwise.0) none)) (otherwise.1 (right_none block (rules_of_else otherwise.0) none))
  statement_layer (Statement-F.Lock p node) none = lock_told m names p node none
  statement_layer (Statement-F.Unlock p node) none = lock_told m names p node none
  statement_layer (Statement-F.If p tests body otherwise) none =
      let of_tests = tests_rules names (method_scope m) tests in
      let front = left_none (of_tests ++ rules_of_body body.0) (rules_of_else otherwise.0) none in
      and_so (tests_are_told names (locals_of m) tests && told_body body.0) (told_else otherwise.0)
      (and_so (tests_are_told names (locals_of m) tests) (told_body body.0)
      (tests_told m names tests (left_none of_tests (rules_of_body body.0) front)) (body.1 (right_none of_tests (rules_of_body body.0) front)))
      (otherwise.1 (right_none (of_tests ++ rules_of_body body.0) (rules_of_else otherwise.0) none))
  statement_layer (Statement-F.While p tests body) none =
      let of_tests = tests_rules names (method_scope m) tests in
      and_so (tests_are_told names (locals_of m) tests) (told_body body.0)
      (tests_told m names tests (left_none of_tests (rules_of_body body.0) none)) (body.1 (right_none of_tests (rules_of_body body.0) none))
  statement_layer (Statement-F.Loop p body) none = body.1 none
  statement_layer (Statement-F.Break p) none = refl
  statement_layer (Statement-F.Continue p) none = refl
  statement_layer (Statement-F.Return p answer) none = refl

  body_layer : (y : Body-F ToldElse ToldStatement ToldBody) → Told (body_broken (plain_body y)) (body_is (plain_body y))
  body_layer y none = list_told y.statements none

  -- the same of a whole part as of its layer
  same_told : (broken folded : List Broken) (a b : Bool) → folded ≡ broken → b ≡ a → Told broken a → Told folded b
  same_told broken folded a b e f so none = f ∙ so (sym e ∙ none)

  statement_so : (s : Statement) → Told (rules_of s) (told s)
  statement_so = ind-Statement (λ e. Told (rules_of_else e) (told_else e)) (λ s. Told (rules_of s) (told s)) (λ b. Told (rules_of_body b) (told_body b))
      (λ x y is. subst (λ (z : Else-F Else Statement Body). Told (rules_of_else (roll-Else z)) (told_else (roll-Else z))) is
      (let z = plain_else y in
      same_told (else_broken z) (rules_of_else (roll-Else z)) (else_is z) (told_else (roll-Else z))
      (fold-roll-Else (List Broken) (List Broken) (List Broken) rules_in_else (rules_in_statement names (method_scope m)) rules_in_body z)
      (fold-roll-Else Bool Bool Bool else_told (statement_told names (locals_of m)) body_told z) (else_layer y)))
      (λ x y is. subst (λ (z : Statement-F Else Statement Body). Told (rules_of (roll-Statement z)) (told (roll-Statement z))) is
      (let z = plain_statement y in
      same_told (statement_broken z) (rules_of (roll-Statement z)) (statement_is z) (told (roll-Statement z))
      (fold-roll-Statement (List Broken) (List Broken) (List Broken) rules_in_else (rules_in_statement names (method_scope m)) rules_in_body z)
      (fold-roll-Statement Bool Bool Bool else_told (statement_told names (locals_of m)) body_told z) (statement_layer y)))
      (λ x y is. subst (λ (z : Body-F Else Statement Body). Told (rules_of_body (roll-Body z)) (told_body (roll-Body z))) is
      (let z = plain_body y in
      same_told (body_broken z) (rules_of_body (roll-Body z)) (body_is z) (told_body (roll-Body z))
      (fold-roll-Body (List Broken) (List Broken) (List Broken) rules_in_else (rules_in_statement names (method_scope m)) rules_in_body z)
      (fold-roll-Body Bool Bool Bool else_told (statement_told names (locals_of m)) body_told z) (body_layer y)))

  pub statements_told : (ss : List Statement) → flat_map rules_of ss ≡ [] → list_all told ss ≡ true
  statements_told ss none = all_told rules_of told statement_so ss none
