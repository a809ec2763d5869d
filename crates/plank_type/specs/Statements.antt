-- The locations of statements, and where their steps lead. Statements stand at a location of a method, which has so
-- many; where they are completed, and where `break` and `continue` lead, are their exits.
use Rattle.std.specs.Prelude.{ℕ, ◌+◌, nat_lt, List, [], ◌∷◌, ◌++◌, map, Option, Some, None, if◌then◌else◌}
use Rattle.std.specs.Option.{option_map_or, option_to_list}
use Rattle.plank_base.specs.declared.places.Place.{Place}
use Rattle.plank_ast.specs.declared.names.Reference.{Reference as ReferenceTree}
use Rattle.plank_ast.specs.declared.statements.Assigned.{Assigned}
use Rattle.plank_ast.specs.declared.statements.Tests.{Tests}
use Rattle.plank_ast.specs.declared.statements.Block.{Block as BlockTree}
use Rattle.plank_ast.specs.declared.statements.Statement.{Statement}
use Rattle.plank_ast.specs.declared.statements.Body.{Body}
use Rattle.plank_ast.specs.declared.statements.Else.{Else}
use Rattle.plank_ast.specs.declared.statements.Else.TheOpen.{Else-F, Statement-F, Body-F}
use Rattle.plank_ast.specs.declared.statements.Else.TheFolds.{fold-Statement, fold-Body, fold-Else}
use Rattle.plank_prog.specs.declared.blocks.Reference.{Reference}
use Rattle.plank_prog.specs.declared.blocks.Value.{Value}
use Rattle.plank_prog.specs.declared.blocks.Test.{Test}
use Rattle.plank_prog.specs.declared.blocks.Write.{Write}
use Rattle.plank_prog.specs.declared.blocks.Block.{Block}
use Rattle.plank_prog.specs.declared.methods.Action.{Action}
use Rattle.plank_prog.specs.declared.methods.Location.{Location}
use Rattle.plank_rules.specs.declared.names.Declared.{Declared}
use Rattle.plank_type.specs.declared.exits.Exits.{Exits}
use Rattle.plank_rules.specs.Declarations.{number_of}
use Rattle.plank_type.specs.Operands.{reference_of, with_of, test_of, read_of, binds_of, writes_of}

-- ---- exits

-- an exit past the end of the method leads back to its own location
abbrev pub exit_within : ℕ → ℕ → ℕ → ℕ
exit_within count at exit = if nat_lt exit count then exit else at

-- the exits of the body of a loop that stands at a location
abbrev pub loop_exits : ℕ → Exits → Exits
loop_exits at exits = record { next = at; of_break = exits.next; of_continue = at }

-- the exits of a statement after which others follow
abbrev pub exits_before : ℕ → Exits → Exits
exits_before next exits = record { next = next; of_break = exits.of_break; of_continue = exits.of_continue }

-- ---- steps

-- a step that does nothing
abbrev pub idle_block : ℕ → ℕ → Block
idle_block met other = record { with = []; tests = []; binds = []; writes = []; yes = met; no = other }

-- an assignment of no declared variable does nothing
abbrev pub assigned : Option ℕ → (ℕ → Action) → ℕ → Action
assigned to action next = option_map_or action to (Action.Block (idle_block next next))

abbrev pub read_block : Declared → List (List ℕ) → List ℕ → ReferenceTree → List ℕ → ℕ → Block
read_block names variables variable node field next =
    record { with = []; tests = []; binds = option_to_list (read_of names variables variable node field); writes = []; yes = next; no = next }

abbrev pub assignment : Declared → List (List ℕ) → List ℕ → Assigned → ℕ → Action
assignment names variables variable (Assigned.New place) next =
    assigned (number_of variable variables) (λ to. Action.New to next) next
assignment names variables variable (Assigned.Null place) next =
    assigned (number_of variable variables) (λ to. Action.Copy to Value.Null next) next
assignment names variables variable (Assigned.Node node None) next =
    assigned (number_of variable variables) (λ to. Action.Copy to (Value.Node (reference_of variables node)) next) next
assignment names variables variable (Assigned.Node node (Some field)) next =
    Action.Block (read_block names variables variable node field.label next)

abbrev pub atomic_block : Declared → List (List ℕ) → BlockTree → ℕ → ℕ → Block
atomic_block names variables tree met other = record {
  with = with_of variables tree.with;
  tests = map (λ line. test_of names variables line.test) tree.tests;
  binds = binds_of names variables tree.binds;
  writes = writes_of names variables tree.writes;
  yes = met;
  no = other;
}

-- the tests of an `if` or a `while`
abbrev pub tests_block : Declared → List (List ℕ) → Tests → ℕ → ℕ → Block
tests_block names variables tests met other = record {
  with = [];
  tests = test_of names variables tests.first ∷ map (test_of names variables) tests.others;
  binds = [];
  writes = [];
  yes = met;
  no = other;
}

-- a lock or unlock statement; without locks it does nothing
abbrev pub lock_block : Declared → Test → Write → ℕ → ℕ → Block
lock_block names test write met other =
    if names.has_lock then (record { with = []; tests = test ∷ []; binds = []; writes = write ∷ []; yes = met; no = other })
    else idle_block met other

abbrev pub take_lock : Declared → Reference → ℕ → ℕ → Block
take_lock names node met other = lock_block names (Test.LockFree node) (Write.TakeLock node) met other

abbrev pub free_lock : Declared → Reference → ℕ → ℕ → Block
free_lock names node met other = lock_block names (Test.LockOwn node) (Write.FreeLock node) met other

-- ---- statements

-- what a statement, or statements, come to: how many locations they have, the location where they are entered, and
-- the locations
pub record Part : Type 0 where
  pub size : ℕ
  pub entry : ℕ → Exits → ℕ
  pub locations : Declared → List (List ℕ) → ℕ → ℕ → Exits → List Location

abbrev pub list_size : List Part → ℕ
list_size [] = 0
list_size (p ∷ ps) = p.size + list_size ps

abbrev pub list_entry : List Part → ℕ → Exits → ℕ
list_entry [] at exits = exits.next
list_entry (p ∷ ps) at exits = p.entry at exits

-- each statement leads to the one after it
abbrev pub list_locations : List Part → Declared → List (List ℕ) → ℕ → ℕ → Exits → List Location
list_locations [] names variables count at exits = []
list_locations (p ∷ ps) names variables count at exits =
    p.locations names variables count at (exits_before (list_entry ps (at + p.size) exits) exits)
    ++ list_locations ps names variables count (at + p.size) exits

-- a statement of one location
abbrev pub step_part : Place → (Declared → List (List ℕ) → ℕ → ℕ → Exits → Action) → Part
step_part place action = record {
  size = 1;
  entry = λ at exits. at;
  locations = λ names variables count at exits. (record { place = place; action = action names variables count at exits }) ∷ [];
}

-- the body of a loop stands where the loop does
abbrev pub loop_part : Part → Part
loop_part body = record {
  size = body.size;
  entry = λ at exits. at;
  locations = λ names variables count at exits. body.locations names variables count at (loop_exits at exits);
}

abbrev pub while_part : Place → Tests → Part → Part
while_part place tests body = record {
  size = 1 + body.size;
  entry = λ at exits. at;
  locations = λ names variables count at exits.
      (record {
        place = place;
        action = Action.Block (tests_block names variables tests
            (exit_within count at (body.entry (at + 1) (loop_exits at exits))) (exit_within count at exits.next));
      })
      ∷ body.locations names variables count (at + 1) (loop_exits at exits);
}

abbrev pub if_part : Place → Tests → Part → Part → Part
if_part place tests body otherwise = record {
  size = 1 + body.size + otherwise.size;
  entry = λ at exits. at;
  locations = λ names variables count at exits.
      (record {
        place = place;
        action = Action.Block (tests_block names variables tests
            (exit_within count at (body.entry (at + 1) exits)) (exit_within count at (otherwise.entry (at + 1 + body.size) exits)));
      })
      ∷ body.locations names variables count (at + 1) exits
      ++ otherwise.locations names variables count (at + 1 + body.size) exits;
}

abbrev pub atomic_part : Place → BlockTree → Part → Part
atomic_part place tree otherwise = record {
  size = 1 + otherwise.size;
  entry = λ at exits. at;
  locations = λ names variables count at exits.
      (record {
        place = place;
        action = Action.Block (atomic_block names variables tree
            (exit_within count at exits.next) (exit_within count at (otherwise.entry (at + 1) exits)));
      })
      ∷ otherwise.locations names variables count (at + 1) exits;
}

-- a jump has no location, and who enters it goes on where it leads
abbrev pub jump_part : (Exits → ℕ) → Part
jump_part target = record {
  size = 0;
  entry = λ at exits. target exits;
  locations = λ names variables count at exits. [];
}

-- one layer of a statement, its parts read already
abbrev pub body_step : Body-F Part Part Part → Part
body_step b = record {
  size = list_size b.statements;
  entry = list_entry b.statements;
  locations = list_locations b.statements;
}

abbrev pub else_step : Else-F Part Part Part → Part
else_step Else-F.Nothing = jump_part (λ exits. exits.next)
else_step (Else-F.Body place body) = body

abbrev pub statement_step : Statement-F Part Part Part → Part
statement_step (Statement-F.Assign variable value) =
    step_part variable.place (λ names variables count at exits. assignment names variables variable.label value (exit_within count at exits.next))
statement_step (Statement-F.Atomic place tree otherwise) = atomic_part place tree otherwise
statement_step (Statement-F.Lock place node) =
    step_part place (λ names variables count at exits. Action.Block (take_lock names (reference_of variables node) (exit_within count at exits.next) at))
statement_step (Statement-F.Unlock place node) =
    step_part place (λ names variables count at exits. Action.Block (free_lock names (reference_of variables node) (exit_within count at exits.next) (exit_within count at exits.next)))
statement_step (Statement-F.If place tests body otherwise) = if_part place tests body otherwise
statement_step (Statement-F.While place tests body) = while_part place tests body
statement_step (Statement-F.Loop place body) = loop_part body
statement_step (Statement-F.Break place) = jump_part (λ exits. exits.of_break)
statement_step (Statement-F.Continue place) = jump_part (λ exits. exits.of_continue)
statement_step (Statement-F.Return place answer) = step_part place (λ names variables count at exits. Action.Return answer.value)

abbrev pub statement_part : Statement → Part
statement_part = fold-Statement Part Part Part else_step statement_step body_step

abbrev pub body_part : Body → Part
body_part = fold-Body Part Part Part else_step statement_step body_step

abbrev pub else_part : Else → Part
else_part = fold-Else Part Part Part else_step statement_step body_step

-- how many locations statements have
abbrev pub statements_size : List Statement → ℕ
statements_size statements = list_size (map statement_part statements)

-- where statements that stand at a location are entered
abbrev pub statements_entry : List Statement → ℕ → Exits → ℕ
statements_entry statements = list_entry (map statement_part statements)

-- the locations of statements that stand at a location
abbrev pub statements_locations : List Statement → Declared → List (List ℕ) → ℕ → ℕ → Exits → List Location
statements_locations statements = list_locations (map statement_part statements)
