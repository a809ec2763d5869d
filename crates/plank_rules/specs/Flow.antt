-- Whether statements can be completed.
use Rattle.std.specs.Prelude.{Bool, true, false, ◌&&◌, ◌||◌, List, fold}
use Rattle.plank_ast.specs.declared.statements.Statement.{Statement}
use Rattle.plank_ast.specs.declared.statements.Body.{Body}
use Rattle.plank_ast.specs.declared.statements.Else.{Else}
use Rattle.plank_ast.specs.declared.statements.Else.TheOpen.{Else-F, Statement-F, Body-F}
use Rattle.plank_ast.specs.declared.statements.Else.TheFolds.{fold-Statement, fold-Body, fold-Else}
use Rattle.plank_rules.specs.declared.flow.Flow.{Flow}

-- what can be completed, and has a `break` of the loop around it or none
abbrev pub flow : Bool → Bool → Flow
flow completes breaks = record { completes = completes; breaks = breaks }

-- one after the other: both are to be completed
abbrev pub then : Flow → Flow → Flow
then first next = flow (first.completes && next.completes) (first.breaks || next.breaks)

-- one or the other
abbrev pub either : Flow → Flow → Flow
either first second = flow (first.completes || second.completes) (first.breaks || second.breaks)

-- statements can be completed where each of them can
abbrev pub list_flow : List Flow → Flow
list_flow flows = fold then (flow true false) flows

abbrev pub body_flow_layer : Body-F Flow Flow Flow → Flow
body_flow_layer b = list_flow b.statements

-- no else can be completed
abbrev pub else_flow_layer : Else-F Flow Flow Flow → Flow
else_flow_layer Else-F.Nothing = flow true false
else_flow_layer (Else-F.Body place body) = body

-- a `loop` can where it has a `break` of its own, and an `if` where a branch can
abbrev pub statement_flow_layer : Statement-F Flow Flow Flow → Flow
statement_flow_layer (Statement-F.Assign variable value) = flow true false
statement_flow_layer (Statement-F.Atomic place block otherwise) = flow true otherwise.breaks
statement_flow_layer (Statement-F.Lock place node) = flow true false
statement_flow_layer (Statement-F.Unlock place node) = flow true false
statement_flow_layer (Statement-F.If place tests body otherwise) = either body otherwise
statement_flow_layer (Statement-F.While place tests body) = flow true false
statement_flow_layer (Statement-F.Loop place body) = flow body.breaks false
statement_flow_layer (Statement-F.Break place) = flow false true
statement_flow_layer (Statement-F.Continue place) = flow false false
statement_flow_layer (Statement-F.Return place answer) = flow false false

abbrev pub statement_flow : Statement → Flow
statement_flow = fold-Statement Flow Flow Flow else_flow_layer statement_flow_layer body_flow_layer

abbrev pub body_flow : Body → Flow
body_flow = fold-Body Flow Flow Flow else_flow_layer statement_flow_layer body_flow_layer

abbrev pub else_flow : Else → Flow
else_flow = fold-Else Flow Flow Flow else_flow_layer statement_flow_layer body_flow_layer
