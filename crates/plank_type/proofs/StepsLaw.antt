-- A method whose loops do not stand still and that cannot be completed has a location.
use Rattle.std.proofs.Common.{◌≡◌, ℕ, ◌<◌, ◌+◌, Bool, true, false, List, [], ◌∷◌, map, refl, sym, ◌∙◌, ap, subst, arith}
use Rattle.std.specs.List.{flat_map}
use Rattle.std.proofs.lemmas.Bool.{false≢true}
use Rattle.plank_ast.specs.declared.statements.Statement.{Statement}
use Rattle.plank_ast.specs.declared.statements.Body.{Body}
use Rattle.plank_ast.specs.declared.statements.Else.{Else}
use Rattle.plank_ast.specs.declared.statements.Else.TheOpen.{Else-F, Statement-F, Body-F}
use Rattle.plank_ast.specs.declared.statements.Else.TheViews.{roll-Else, roll-Statement, roll-Body}
use Rattle.plank_ast.specs.declared.statements.Else.TheFolds.{map-Else, map-Statement, map-Body, fold-roll-Statement, fold-roll-Body, ind-Statement}
use Rattle.plank_ast.specs.declared.methods.Method.{Method}
use Rattle.plank_rules.specs.declared.broken.Broken.{Broken}
use Rattle.plank_rules.specs.Faults.{when, wrong_kind, no_return}
use Rattle.plank_rules.specs.Flow.{list_flow, statement_flow}
use Rattle.plank_rules.specs.Loops.{stray, body_stray, else_stray, stray_in_else, stray_in_statement, stray_in_body, Still, StillBody, begins_still, still, body_still, else_still, still_in_else, still_in_statement, still_in_body}
use Rattle.plank_type.specs.Methods.{method_size}
use Rattle.plank_type.specs.Statements.{Part, list_size, else_step, statement_step, body_step, statement_part, body_part, else_part, statements_size}
use Rattle.plank_type.proofs.Tests.{left_none}
use Rattle.plank_type.proofs.Distinct.{when_none, when_rest}

-- a statement that stands in no loop is no jump, and one that is no jump has a location
record Moves (s : Statement) : Type 0 where
  pub goes : stray s ≡ [] → (still s).leaves ≡ false
  pub steps : (still s).leaves ≡ false → (still s).loops ≡ [] → 0 < (statement_part s).size

abbrev BodyMoves : Body → Type 0
BodyMoves b = (body_still b).is_still ≡ false → (body_still b).loops ≡ [] → 0 < (body_part b).size

abbrev ElseMoves : Else → Type 0
ElseMoves e = Else

abbrev ProvedStatement : Type 0
ProvedStatement = (s : Statement) × Moves s

abbrev ProvedBody : Type 0
ProvedBody = (b : Body) × BodyMoves b

abbrev ProvedElse : Type 0
ProvedElse = (e : Else) × ElseMoves e

abbrev plain_else : Else-F ProvedElse ProvedStatement ProvedBody → Else-F Else Statement Body
plain_else y = map-Else ProvedElse ProvedStatement ProvedBody Else Statement Body (λ e. e.0) (λ e. e.0) (λ e. e.0) y

abbrev plain_statement : Statement-F ProvedElse ProvedStatement ProvedBody → Statement-F Else Statement Body
plain_statement y = map-Statement ProvedElse ProvedStatement ProvedBody Else Statement Body (λ e. e.0) (λ e. e.0) (λ e. e.0) y

abbrev plain_body : Body-F ProvedElse ProvedStatement ProvedBody → Body-F Else Statement Body
plain_body y = map-Body ProvedElse ProvedStatement ProvedBody Else Statement Body (λ e. e.0) (λ e. e.0) (λ e. e.0) y

-- what the three folds say of one layer
abbrev still_layer : Statement-F Else Statement Body → Still
still_layer z = still_in_statement (map-Statement Else Statement Body (List Broken) Still StillBody else_still still body_still z)

abbrev stray_layer : Statement-F Else Statement Body → List Broken
stray_layer z = stray_in_statement (map-Statement Else Statement Body (List Broken) (List Broken) (List Broken) else_stray stray body_stray z)

abbrev part_layer : Statement-F Else Statement Body → Part
part_layer z = statement_step (map-Statement Else Statement Body Part Part Part else_part statement_part body_part z)

layer_goes : (y : Statement-F ProvedElse ProvedStatement ProvedBody) → stray_layer (plain_statement y) ≡ [] → (still_layer (plain_statement y)).leaves ≡ false
layer_goes (Statement-F.Assign variable value) n = refl
layer_goes (Statement-F.Atomic place tree otherwise) n = refl
layer_goes (Statement-F.Lock place node) n = refl
layer_goes (Statement-F.Unlock place node) n = refl
layer_goes (Statement-F.If place tests body otherwise) n = refl
layer_goes (Statement-F.While place tests body) n = refl
layer_goes (Statement-F.Loop place body) n = refl
layer_goes (Statement-F.Break place) n = absurd (cc)
layer_goes (Statement-F.Continue place) n = absurd (cc)
layer_goes (Statement-F.Return place answer) n = refl

more_than_none : (n : ℕ) → 0 < 1 + n
more_than_none n = omega arith

more_than_both : (m n : ℕ) → 0 < 1 + m + n
more_than_both m n = omega arith

layer_steps : (y : Statement-F ProvedElse ProvedStatement ProvedBody) → (still_layer (plain_statement y)).leaves ≡ false → (still_layer (plain_statement y)).loops ≡ [] → 0 < (part_layer (plain_statement y)).size
layer_steps (Statement-F.Assign variable value) l n = omega arith
layer_steps (Statement-F.Atomic place tree otherwise) l n = more_than_none (else_part otherwise.0).size
layer_steps (Statement-F.Lock place node) l n = omega arith
layer_steps (Statement-F.Unlock place node) l n = omega arith
layer_steps (Statement-F.If place tests body otherwise) l n = more_than_both (body_part body.0).size (else_part otherwise.0).size
layer_steps (Statement-F.While place tests body) l n = more_than_none (body_part body.0).size
layer_steps (Statement-F.Loop place body) l n =
    body.1 (when_none (body_still body.0).is_still (wrong_kind place) (body_still body.0).loops n)
    (when_rest (body_still body.0).is_still (wrong_kind place) (body_still body.0).loops n)
layer_steps (Statement-F.Break place) l n = absurd (false≢true (sym l))
layer_steps (Statement-F.Continue place) l n = absurd (false≢true (sym l))
layer_steps (Statement-F.Return place answer) l n = omega arith

first_of_both : (m n : ℕ) → 0 < m → 0 < m + n
first_of_both m n h = omega arith

begins : (es : List ProvedStatement) → begins_still (map still (map (λ e. e.0) es)) ≡ false → flat_map (λ s. s.loops) (map still (map (λ e. e.0) es)) ≡ [] → 0 < list_size (map statement_part (map (λ e. e.0) es))
begins [] l n = absurd (false≢true (sym l))
begins (e ∷ es) l n =
    first_of_both (statement_part e.0).size (list_size (map statement_part (map (λ d. d.0) es)))
    (e.1.steps l (left_none (still e.0).loops (flat_map (λ s. s.loops) (map still (map (λ d. d.0) es))) n))

statement_moves : (s : Statement) → Moves s
statement_moves = ind-Statement ElseMoves Moves BodyMoves
    (λ x y is. roll-Else (plain_else y))
    (λ x y is. subst (λ (z : Statement-F Else Statement Body). Moves (roll-Statement z)) is
    (let z = plain_statement y in
    let stilled = fold-roll-Statement (List Broken) Still StillBody still_in_else still_in_statement still_in_body z in
    let strayed = fold-roll-Statement (List Broken) (List Broken) (List Broken) stray_in_else stray_in_statement stray_in_body z in
    let parted = fold-roll-Statement Part Part Part else_step statement_step body_step z in
    record {
      goes = λ n. ap (λ (t : Still). t.leaves) stilled ∙ layer_goes y (sym strayed ∙ n);
      steps = λ l n. subst (λ (p : Part). 0 < p.size) (sym parted)
          (layer_steps y (ap (λ (t : Still). t.leaves) (sym stilled) ∙ l) (ap (λ (t : Still). t.loops) (sym stilled) ∙ n));
    }))
    (λ x y is. subst (λ (z : Body-F Else Statement Body). BodyMoves (roll-Body z)) is
    (let z = plain_body y in
    let stilled = fold-roll-Body (List Broken) Still StillBody still_in_else still_in_statement still_in_body z in
    let parted = fold-roll-Body Part Part Part else_step statement_step body_step z in
    λ l n. subst (λ (p : Part). 0 < p.size) (sym parted)
    (begins y.statements (ap (λ (t : StillBody). t.is_still) (sym stilled) ∙ l) (ap (λ (t : StillBody). t.loops) (sym stilled) ∙ n))))

-- a list of statements that cannot be completed has a location
statements_step : (ss : List Statement) → (list_flow (map statement_flow ss)).completes ≡ false → flat_map stray ss ≡ [] → flat_map (λ s. (still s).loops) ss ≡ [] → 0 < statements_size ss
statements_step [] c strays loops = absurd (false≢true (sym c))
statements_step (s ∷ ss) c strays loops =
    let m = statement_moves s in
    first_of_both (statement_part s).size (statements_size ss)
    (m.steps (m.goes (left_none (stray s) (flat_map stray ss) strays)) (left_none (still s).loops (flat_map (λ r. (still r).loops) ss) loops))

unlisted_test : (test : Bool) (b : Broken) → when test b ≡ [] → test ≡ false
unlisted_test false b h = refl
unlisted_test true b h = absurd (cc)

pub method_steps : (m : Method) → when (list_flow (map statement_flow m.statements)).completes (no_return m.end) ≡ [] → flat_map stray m.statements ≡ [] → flat_map (λ s. (still s).loops) m.statements ≡ [] → 0 < method_size m
method_steps m r strays loops =
    statements_step m.statements (unlisted_test (list_flow (map statement_flow m.statements)).completes (no_return m.end) r) strays loops
