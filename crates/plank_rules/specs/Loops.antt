-- The rules on loops: what leads out of one stands in one, and none stands still.
use Rattle.std.specs.Prelude.{Bool, true, false, List, [], ◌∷◌, ◌++◌}
use Rattle.std.specs.List.{flat_map}
use Rattle.plank_ast.specs.declared.statements.Statement.{Statement}
use Rattle.plank_ast.specs.declared.statements.Body.{Body}
use Rattle.plank_ast.specs.declared.statements.Else.{Else}
use Rattle.plank_ast.specs.declared.statements.Else.TheOpen.{Else-F, Statement-F, Body-F}
use Rattle.plank_ast.specs.declared.statements.Else.TheFolds.{fold-Statement, fold-Body, fold-Else}
use Rattle.plank_rules.specs.declared.broken.Broken.{Broken}
use Rattle.plank_rules.specs.Faults.{when, wrong_kind}

-- ---- `break` and `continue` outside a loop

abbrev pub stray_in_body : Body-F (List Broken) (List Broken) (List Broken) → List Broken
stray_in_body b = flat_map (λ rules. rules) b.statements

abbrev pub stray_in_else : Else-F (List Broken) (List Broken) (List Broken) → List Broken
stray_in_else Else-F.Nothing = []
stray_in_else (Else-F.Body place body) = body

abbrev pub stray_in_statement : Statement-F (List Broken) (List Broken) (List Broken) → List Broken
stray_in_statement (Statement-F.Assign variable value) = []
stray_in_statement (Statement-F.Atomic place block otherwise) = otherwise
stray_in_statement (Statement-F.Lock place node) = []
stray_in_statement (Statement-F.Unlock place node) = []
stray_in_statement (Statement-F.If place tests body otherwise) = body ++ otherwise
stray_in_statement (Statement-F.While place tests body) = []
stray_in_statement (Statement-F.Loop place body) = []
stray_in_statement (Statement-F.Break place) = wrong_kind place ∷ []
stray_in_statement (Statement-F.Continue place) = wrong_kind place ∷ []
stray_in_statement (Statement-F.Return place answer) = []

-- each `break` and `continue` of a statement that stands in no loop of it
abbrev pub stray : Statement → List Broken
stray = fold-Statement (List Broken) (List Broken) (List Broken) stray_in_else stray_in_statement stray_in_body

abbrev pub body_stray : Body → List Broken
body_stray = fold-Body (List Broken) (List Broken) (List Broken) stray_in_else stray_in_statement stray_in_body

abbrev pub else_stray : Else → List Broken
else_stray = fold-Else (List Broken) (List Broken) (List Broken) stray_in_else stray_in_statement stray_in_body

-- ---- a `loop` whose body is empty or begins with `break` or `continue`

-- whether a statement is `break` or `continue`, and the loops in it that stand still
pub record Still : Type 0 where
  pub leaves : Bool
  pub loops : List Broken

-- whether a body is empty or begins with `break` or `continue`, and the loops in it that stand still
pub record StillBody : Type 0 where
  pub is_still : Bool
  pub loops : List Broken

-- a statement that is neither `break` nor `continue`
abbrev pub going : List Broken → Still
going loops = record { leaves = false; loops = loops }

abbrev pub begins_still : List Still → Bool
begins_still [] = true
begins_still (s ∷ ss) = s.leaves

abbrev pub still_in_body : Body-F (List Broken) Still StillBody → StillBody
still_in_body b = record { is_still = begins_still b.statements; loops = flat_map (λ s. s.loops) b.statements }

abbrev pub still_in_else : Else-F (List Broken) Still StillBody → List Broken
still_in_else Else-F.Nothing = []
still_in_else (Else-F.Body place body) = body.loops

abbrev pub still_in_statement : Statement-F (List Broken) Still StillBody → Still
still_in_statement (Statement-F.Assign variable value) = going []
still_in_statement (Statement-F.Atomic place block otherwise) = going otherwise
still_in_statement (Statement-F.Lock place node) = going []
still_in_statement (Statement-F.Unlock place node) = going []
still_in_statement (Statement-F.If place tests body otherwise) = going (body.loops ++ otherwise)
still_in_statement (Statement-F.While place tests body) = going body.loops
still_in_statement (Statement-F.Loop place body) = going (when body.is_still (wrong_kind place) ++ body.loops)
still_in_statement (Statement-F.Break place) = record { leaves = true; loops = [] }
still_in_statement (Statement-F.Continue place) = record { leaves = true; loops = [] }
still_in_statement (Statement-F.Return place answer) = going []

abbrev pub still : Statement → Still
still = fold-Statement (List Broken) Still StillBody still_in_else still_in_statement still_in_body

abbrev pub body_still : Body → StillBody
body_still = fold-Body (List Broken) Still StillBody still_in_else still_in_statement still_in_body

abbrev pub else_still : Else → List Broken
else_still = fold-Else (List Broken) Still StillBody still_in_else still_in_statement still_in_body
