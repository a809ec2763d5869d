-- Statements have as many locations as their size says, and each may stand in its method, by induction over statements.
use Rattle.std.proofs.Common.{◌≡◌, ℕ, suc, ◌<◌, ◌≤◌, ◌+◌, Bool, true, false, List, [], ◌∷◌, ◌++◌, length, map, refl, sym, ◌∙◌, ap, subst, arith, length-append, if◌then◌else◌}
use Rattle.std.specs.Prelude.{nat_lt}
use Rattle.std.specs.List.{list_all, flat_map}
use Rattle.std.proofs.lemmas.Bool.{lt-ltb}
use Rattle.std.proofs.lemmas.List.Folds.{list_all-append, flat_map-map}
use Rattle.plank_base.specs.declared.places.Place.{Place}
use Rattle.plank_lex.specs.declared.words.Reserved.TheVariants as word
use Rattle.plank_lex.specs.Spelling.{word_of}
use Rattle.plank_ast.specs.declared.statements.Tests.{Tests}
use Rattle.plank_ast.specs.declared.statements.Block.{Block as BlockTree}
use Rattle.plank_ast.specs.declared.statements.Statement.{Statement}
use Rattle.plank_ast.specs.declared.statements.Body.{Body}
use Rattle.plank_ast.specs.declared.statements.Else.{Else}
use Rattle.plank_ast.specs.declared.statements.Else.TheOpen.{Else-F, Statement-F, Body-F}
use Rattle.plank_ast.specs.declared.statements.Else.TheViews.{roll-Else, roll-Statement, roll-Body}
use Rattle.plank_ast.specs.declared.statements.Else.TheFolds.{map-Else, map-Statement, map-Body, fold-roll-Else, fold-roll-Statement, fold-roll-Body, ind-Statement}
use Rattle.plank_ast.specs.declared.methods.Method.{Method}
use Rattle.plank_ast.specs.declared.texts.Text.{Text}
use Rattle.plank_rules.specs.declared.broken.Broken.{Broken}
use Rattle.plank_rules.specs.Declarations.{is_among, variables_of}
use Rattle.plank_rules.specs.StatementRules.{tests_rules, block_rules, assign_rules, lock_rules, else_layer as rules_in_else, statement_layer as rules_in_statement, body_layer as rules_in_body, statement_rules, body_rules, else_rules}
use Rattle.plank_rules.specs.MethodRules.{method_scope}
use Rattle.plank_rules.specs.BrokenRules.{declared_by as rules_header}
use Rattle.plank_prog.specs.declared.headers.Header.{Header}
use Rattle.plank_prog.specs.declared.methods.Action.{Action}
use Rattle.plank_prog.specs.declared.methods.Location.{Location}
use Rattle.plank_prog.specs.Methods.{is_lawful_action}
use Rattle.plank_rules.specs.declared.names.Declared.{Declared}
use Rattle.plank_type.specs.declared.exits.Exits.{Exits}
use Rattle.plank_type.specs.Operands.{reference_of}
use Rattle.plank_type.specs.Statements.{Part, exit_within, loop_exits, exits_before, assignment, atomic_block, tests_block, take_lock, free_lock, list_size, list_entry, list_locations, step_part, loop_part, while_part, if_part, atomic_part, jump_part, body_step, else_step, statement_step, statement_part, body_part, else_part, statements_size, statements_locations}
use Rattle.plank_type.proofs.Tests.{and_so, left_none, right_none}
use Rattle.plank_type.proofs.BlockNames.{assigned_names, atomic_names}
use Rattle.plank_type.proofs.BlocksLaw.{Fitting, take_so, free_so, tests_block_so, atomic_so, assignment_so}

exit_test : (inside : Bool) (count at exit : ℕ) → nat_lt exit count ≡ inside → nat_lt at count ≡ true → nat_lt (if inside then exit else at) count ≡ true
exit_test true count at exit e below = e
exit_test false count at exit e below = below

-- an exit leads to a location of the method
exit_below : (count at exit : ℕ) → at < count → nat_lt (exit_within count at exit) count ≡ true
exit_below count at exit below = exit_test (nat_lt exit count) count at exit refl (lt-ltb at count below)

one_more : (ls : List Location) (n : ℕ) → length ls ≡ n → suc (length ls) ≡ 1 + n
one_more ls n e = omega arith

two_more : (ls rs : List Location) (m n : ℕ) → length ls ≡ m → length rs ≡ n → suc (length (ls ++ rs)) ≡ 1 + m + n
two_more ls rs m n e f = omega (arith, length-append ls rs)

module _ (t : Text) (m : Method) (rootless : is_among (variables_of m) (word_of word.Root) ≡ false) (h : Header) (names : Declared) (fitting : Fitting h names) where
  abbrev variables : List (List ℕ)
  variables = variables_of m

  -- the rules that parts of the method break
  abbrev rules_of : Statement → List Broken
  rules_of s = statement_rules (rules_header t) (method_scope m) s

  abbrev rules_of_body : Body → List Broken
  rules_of_body b = body_rules (rules_header t) (method_scope m) b

  abbrev rules_of_else : Else → List Broken
  rules_of_else e = else_rules (rules_header t) (method_scope m) e

  abbrev rules_of_tests : Tests → List Broken
  rules_of_tests tests = tests_rules (rules_header t) (method_scope m) tests

  abbrev each_lawful : ℕ → List Location → Bool
  each_lawful count ls = list_all (λ l. is_lawful_action h (length variables) count l.action) ls

  -- a part with the locations that its size says, which all may stand in their method where it breaks no rule
  record Lawful (broken : List Broken) (p : Part) : Type 0 where
    pub size : (count at : ℕ) (exits : Exits) → length (p.locations names variables count at exits) ≡ p.size
    pub lawful : broken ≡ [] → (count at : ℕ) (exits : Exits) → at + p.size ≤ count → each_lawful count (p.locations names variables count at exits) ≡ true

  step_so : (broken : List Broken) (place : Place) (action : Declared → List (List ℕ) → ℕ → ℕ → Exits → Action) → (broken ≡ [] → (count at : ℕ) (exits : Exits) → at < count → is_lawful_action h (length variables) count (action names variables count at exits) ≡ true) → Lawful broken (step_part place action)
  step_so broken place action so = record {
    size = λ count at exits. refl;
    lawful = λ none count at exits room. and_so (is_lawful_action h (length variables) count (action names variables count at exits)) true (so none count at exits (omega arith)) refl;
  }

  jump_so : (broken : List Broken) (target : Exits → ℕ) → Lawful broken (jump_part target)
  jump_so broken target = record { size = λ count at exits. refl; lawful = λ none count at exits room. refl }

  loop_so : (of_body : List Broken) (body : Part) → Lawful of_body body → Lawful of_body (loop_part body)
  loop_so of_body body b = record {
    size = λ count at exits. b.size count at (loop_exits at exits);
    lawful = λ none count at exits room. b.lawful none count at (loop_exits at exits) room;
  }

  while_so : (of_tests of_body : List Broken) (place : Place) (tests : Tests) (body : Part) → Lawful of_body body → Lawful (of_tests ++ of_body) (while_part place tests body)
  while_so of_tests of_body place tests body b = record {
    size = λ count at exits. one_more (body.locations names variables count (at + 1) (loop_exits at exits)) body.size (b.size count (at + 1) (loop_exits at exits));
    lawful = λ none count at exits room.
        let below : at < count = omega (arith, room) in
        and_so (is_lawful_action h (length variables) count (Action.Block (tests_block names variables tests (exit_within count at (body.entry (at + 1) (loop_exits at exits))) (exit_within count at exits.next))))
        (each_lawful count (body.locations names variables count (at + 1) (loop_exits at exits)))
        (tests_block_so h names fitting variables count tests (exit_within count at (body.entry (at + 1) (loop_exits at exits))) (exit_within count at exits.next)
        (exit_below count at (body.entry (at + 1) (loop_exits at exits)) below) (exit_below count at exits.next below))
        (b.lawful (right_none of_tests of_body none) count (at + 1) (loop_exits at exits) (omega (arith, room)));
  }

  if_so : (of_tests of_body of_else : List Broken) (place : Place) (tests : Tests) (body otherwise : Part) → Lawful of_body body → Lawful of_else otherwise → Lawful (of_tests ++ of_body ++ of_else) (if_part place tests body otherwise)
  if_so of_tests of_body of_else place tests body otherwise b o = record {
    size = λ count at exits.
        two_more (body.locations names variables count (at + 1) exits) (otherwise.locations names variables count (at + 1 + body.size) exits) body.size otherwise.size
        (b.size count (at + 1) exits) (o.size count (at + 1 + body.size) exits);
    lawful = λ none count at exits room.
        let below : at < count = omega (arith, room) in
        and_so (is_lawful_action h (length variables) count (Action.Block (tests_block names variables tests (exit_within count at (body.entry (at + 1) exits)) (exit_within count at (otherwise.entry (at + 1 + body.size) exits)))))
        (each_lawful count (body.locations names variables count (at + 1) exits ++ otherwise.locations names variables count (at + 1 + body.size) exits))
        (tests_block_so h names fitting variables count tests (exit_within count at (body.entry (at + 1) exits)) (exit_within count at (otherwise.entry (at + 1 + body.size) exits))
        (exit_below count at (body.entry (at + 1) exits) below) (exit_below count at (otherwise.entry (at + 1 + body.size) exits) below))
        (list_all-append (λ l. is_lawful_action h (length variables) count l.action) (body.locations names variables count (at + 1) exits) (otherwise.locations names variables count (at + 1 + body.size) exits)
        ∙ and_so (each_lawful count (body.locations names variables count (at + 1) exits)) (each_lawful count (otherwise.locations names variables count (at + 1 + body.size) exits))
        (b.lawful (right_none of_tests of_body (left_none (of_tests ++ of_body) of_else none)) count (at + 1) exits (omega (arith, room)))
        (o.lawful (right_none (of_tests ++ of_body) of_else none) count (at + 1 + body.size) exits (omega (arith, room))));
  }

  atomic_part_so : (of_else : List Broken) (place : Place) (tree : BlockTree) (otherwise : Part) → Lawful of_else otherwise → Lawful (block_rules (rules_header t) (method_scope m) tree ++ of_else) (atomic_part place tree otherwise)
  atomic_part_so of_else place tree otherwise o = record {
    size = λ count at exits. one_more (otherwise.locations names variables count (at + 1) exits) otherwise.size (o.size count (at + 1) exits);
    lawful = λ none count at exits room.
        let below : at < count = omega (arith, room) in
        and_so (is_lawful_action h (length variables) count (Action.Block (atomic_block names variables tree (exit_within count at exits.next) (exit_within count at (otherwise.entry (at + 1) exits)))))
        (each_lawful count (otherwise.locations names variables count (at + 1) exits))
        (atomic_so h names fitting variables count tree (exit_within count at exits.next) (exit_within count at (otherwise.entry (at + 1) exits))
        (exit_below count at exits.next below) (exit_below count at (otherwise.entry (at + 1) exits) below)
        (atomic_names m rootless names t tree (exit_within count at exits.next) (exit_within count at (otherwise.entry (at + 1) exits))
        (left_none (block_rules (rules_header t) (method_scope m) tree) of_else none)))
        (o.lawful (right_none (block_rules (rules_header t) (method_scope m) tree) of_else none) count (at + 1) exits (omega (arith, room)));
  }

  -- ---- lists

  -- a statement with its proof
  abbrev LawfulStatement : Statement → Type 0
  LawfulStatement s = Lawful (rules_of s) (statement_part s)

  abbrev ProvedStatement : Type 0
  ProvedStatement = (s : Statement) × LawfulStatement s

  abbrev parts_of : List ProvedStatement → List Part
  parts_of es = map statement_part (map (λ e. e.0) es)

  abbrev all_rules : List ProvedStatement → List Broken
  all_rules es = flat_map (λ rules. rules) (map rules_of (map (λ e. e.0) es))

  list_sized : (es : List ProvedStatement) (count at : ℕ) (exits : Exits) → length (list_locations (parts_of es) names variables count at exits) ≡ list_size (parts_of es)
  list_sized [] count at exits = refl
  list_sized (e ∷ es) count at exits =
      let p = statement_part e.0 in
      let inner = exits_before (list_entry (parts_of es) (at + p.size) exits) exits in
      length-append (p.locations names variables count at inner) (list_locations (parts_of es) names variables count (at + p.size) exits)
      ∙ ap (λ n. n + length (list_locations (parts_of es) names variables count (at + p.size) exits)) (e.1.size count at inner)
      ∙ ap (λ n. p.size + n) (list_sized es count (at + p.size) exits)

  list_lawful : (es : List ProvedStatement) → all_rules es ≡ [] → (count at : ℕ) (exits : Exits) → at + list_size (parts_of es) ≤ count → each_lawful count (list_locations (parts_of es) names variables count at exits) ≡ true
  list_lawful [] none count at exits room = refl
  list_lawful (e ∷ es) none count at exits room =
      let p = statement_part e.0 in
      let inner = exits_before (list_entry (parts_of es) (at + p.size) exits) exits in
      list_all-append (λ l. is_lawful_action h (length variables) count l.action) (p.locations names variables count at inner) (list_locations (parts_of es) names variables count (at + p.size) exits)
      ∙ and_so (each_lawful count (p.locations names variables count at inner)) (each_lawful count (list_locations (parts_of es) names variables count (at + p.size) exits))
      (e.1.lawful (left_none (rules_of e.0) (all_rules es) none) count at inner (omega (arith, room)))
      (list_lawful es (right_none (rules_of e.0) (all_rules es) none) count (at + p.size) exits (omega (arith, room)))

  -- ---- by induction over statements

  abbrev LawfulBody : Body → Type 0
  LawfulBody b = Lawful (rules_of_body b) (body_part b)

  abbrev LawfulElse : Else → Type 0
  LawfulElse e = Lawful (rules_of_else e) (else_part e)

  abbrev ProvedBody : Type 0
  ProvedBody = (b : Body) × LawfulBody b

  abbrev ProvedElse : Type 0
  ProvedElse = (e : Else) × LawfulElse e

  abbrev plain_else : Else-F ProvedElse ProvedStatement ProvedBody → Else-F Else Statement Body
  plain_else y = map-Else ProvedElse ProvedStatement ProvedBody Else Statement Body (λ e. e.0) (λ e. e.0) (λ e. e.0) y

  abbrev plain_statement : Statement-F ProvedElse ProvedStatement ProvedBody → Statement-F Else Statement Body
  plain_statement y = map-Statement ProvedElse ProvedStatement ProvedBody Else Statement Body (λ e. e.0) (λ e. e.0) (λ e. e.0) y

  abbrev plain_body : Body-F ProvedElse ProvedStatement ProvedBody → Body-F Else Statement Body
  plain_body y = map-Body ProvedElse ProvedStatement ProvedBody Else Statement Body (λ e. e.0) (λ e. e.0) (λ e. e.0) y

  -- the rules of one layer, and the part that it comes to
  abbrev else_broken : Else-F Else Statement Body → List Broken
  else_broken z = rules_in_else (map-Else Else Statement Body (List Broken) (List Broken) (List Broken) rules_of_else rules_of rules_of_body z)

  abbrev else_made : Else-F Else Statement Body → Part
  else_made z = else_step (map-Else Else Statement Body Part Part Part else_part statement_part body_part z)

  abbrev statement_broken : Statement-F Else Statement Body → List Broken
  statement_broken z = rules_in_statement (rules_header t) (method_scope m) (map-Statement Else Statement Body (List Broken) (List Broken) (List Broken) rules_of_else rules_of rules_of_body z)

  abbrev statement_made : Statement-F Else Statement Body → Part
  statement_made z = statement_step (map-Statement Else Statement Body Part Part Part else_part statement_part body_part z)

  abbrev body_broken : Body-F Else Statement Body → List Broken
  body_broken z = rules_in_body (map-Body Else Statement Body (List Broken) (List Broken) (List Broken) rules_of_else rules_of rules_of_body z)

  abbrev body_made : Body-F Else Statement Body → Part
  body_made z = body_step (map-Body Else Statement Body Part Part Part else_part statement_part body_part z)

  else_layer : (y : Else-F ProvedElse ProvedStatement ProvedBody) → Lawful (else_broken (plain_else y)) (else_made (plain_else y))
  else_layer Else-F.Nothing = jump_so [] (λ exits. exits.next)
  else_layer (Else-F.Body place body) = body.1

  statement_layer : (y : Statement-F ProvedElse ProvedStatement ProvedBody) → Lawful (statement_broken (plain_statement y)) (statement_made (plain_statement y))
  statement_layer (Statement-F.Assign variable value) =
      step_so (assign_rules (rules_header t) (method_scope m) variable value) variable.place
      (λ names variables count at exits. assignment names variables variable.label value (exit_within count at exits.next))
      (λ none count at exits below. assignment_so h names fitting variables count variable.label value (exit_within count at exits.next) (exit_below count at exits.next below)
      (assigned_names m t names variable value (exit_within count at exits.next) none))
  statement_layer (Statement-F.Atomic place tree otherwise) =
      atomic_part_so (rules_of_else otherwise.0) place tree (else_part otherwise.0) otherwise.1
  statement_layer (Statement-F.Lock place node) =
      step_so (lock_rules (rules_header t) (method_scope m) place node) place
      (λ names variables count at exits. Action.Block (take_lock names (reference_of variables node) (exit_within count at exits.next) at))
      (λ none count at exits below. take_so h names fitting variables count node (exit_within count at exits.next) at (exit_below count at exits.next below) (lt-ltb at count below))
  statement_layer (Statement-F.Unlock place node) =
      step_so (lock_rules (rules_header t) (method_scope m) place node) place
      (λ names variables count at exits. Action.Block (free_lock names (reference_of variables node) (exit_within count at exits.next) (exit_within count at exits.next)))
      (λ none count at exits below. free_so h names fitting variables count node (exit_within count at exits.next) (exit_within count at exits.next) (exit_below count at exits.next below) (exit_below count at exits.next below))
  statement_layer (Statement-F.If place tests body otherwise) =
      if_so (rules_of_tests tests) (rules_of_body body.0) (rules_of_else otherwise.0) place tests (body_part body.0) (else_part otherwise.0) body.1 otherwise.1
  statement_layer (Statement-F.While place tests body) = while_so (rules_of_tests tests) (rules_of_body body.0) place tests (body_part body.0) body.1
  statement_layer (Statement-F.Loop place body) = loop_so (rules_of_body body.0) (body_part body.0) body.1
  statement_layer (Statement-F.Break place) = jump_so [] (λ exits. exits.of_break)
  statement_layer (Statement-F.Continue place) = jump_so [] (λ exits. exits.of_continue)
  statement_layer (Statement-F.Return place answer) = step_so [] place (λ names variables count at exits. Action.Return answer.value) (λ none count at exits below. refl)

  body_layer : (y : Body-F ProvedElse ProvedStatement ProvedBody) → Lawful (body_broken (plain_body y)) (body_made (plain_body y))
  body_layer y = record { size = list_sized y.statements; lawful = list_lawful y.statements }

  -- the same of a whole part as of its layer
  same_lawful : (broken folded : List Broken) (p q : Part) → folded ≡ broken → q ≡ p → Lawful broken p → Lawful folded q
  same_lawful broken folded p q e f l =
      subst (λ (b : List Broken). Lawful b q) (sym e) (subst (λ (r : Part). Lawful broken r) (sym f) l)

  statement_lawful : (s : Statement) → LawfulStatement s
  statement_lawful = ind-Statement LawfulElse LawfulStatement LawfulBody
      (λ x y is. subst (λ (z : Else-F Else Statement Body). LawfulElse (roll-Else z)) is
      (let z = plain_else y in
      same_lawful (else_broken z) (rules_of_else (roll-Else z)) (else_made z) (else_part (roll-Else z))
      (fold-roll-Else (List Broken) (List Broken) (List Broken) rules_in_else (rules_in_statement (rules_header t) (method_scope m)) rules_in_body z)
      (fold-roll-Else Part Part Part else_step statement_step body_step z) (else_layer y)))
      (λ x y is. subst (λ (z : Statement-F Else Statement Body). LawfulStatement (roll-Statement z)) is
      (let z = plain_statement y in
      same_lawful (statement_broken z) (rules_of (roll-Statement z)) (statement_made z) (statement_part (roll-Statement z))
      (fold-roll-Statement (List Broken) (List Broken) (List Broken) rules_in_else (rules_in_statement (rules_header t) (method_scope m)) rules_in_body z)
      (fold-roll-Statement Part Part Part else_step statement_step body_step z) (statement_layer y)))
      (λ x y is. subst (λ (z : Body-F Else Statement Body). LawfulBody (roll-Body z)) is
      (let z = plain_body y in
      same_lawful (body_broken z) (rules_of_body (roll-Body z)) (body_made z) (body_part (roll-Body z))
      (fold-roll-Body (List Broken) (List Broken) (List Broken) rules_in_else (rules_in_statement (rules_header t) (method_scope m)) rules_in_body z)
      (fold-roll-Body Part Part Part else_step statement_step body_step z) (body_layer y)))

  proved : List Statement → List ProvedStatement
  proved [] = []
  proved (s ∷ ss) = (s, statement_lawful s) ∷ proved ss

  same_statements : (ss : List Statement) → map (λ e. e.0) (proved ss) ≡ ss
  unfolding proved
  same_statements [] = refl
  same_statements (s ∷ ss) = ap (λ rest. s ∷ rest) (same_statements ss)

  -- statements have as many locations as their size says
  pub statements_sized : (ss : List Statement) (count at : ℕ) (exits : Exits) → length (statements_locations ss names variables count at exits) ≡ statements_size ss
  statements_sized ss count at exits =
      subst (λ (them : List Statement). length (statements_locations them names variables count at exits) ≡ statements_size them) (same_statements ss)
      (list_sized (proved ss) count at exits)

  -- and each may stand in its method, where no rule is broken
  pub statements_lawful : (ss : List Statement) → flat_map rules_of ss ≡ [] → (count at : ℕ) (exits : Exits) → at + statements_size ss ≤ count → each_lawful count (statements_locations ss names variables count at exits) ≡ true
  statements_lawful ss none count at exits =
      subst (λ (them : List Statement). flat_map (λ rules. rules) (map rules_of them) ≡ [] → at + statements_size them ≤ count → each_lawful count (statements_locations them names variables count at exits) ≡ true) (same_statements ss)
      (λ broken. list_lawful (proved ss) broken count at exits) (flat_map-map (λ rules. rules) rules_of ss ∙ none)
