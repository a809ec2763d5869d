-- Worlds: a heap, and the pending calls of the threads that have one, by the numbers of the threads.
use Rattle.std.specs.Prelude.{ℕ, ℤ, refl, replicate, None}
use Rattle.std.specs.Coded.{Coded, code_by, coded×, coded_ℕ}
use Rattle.std.specs.FinMap.{FinMap, empty, code}
use Rattle.std.specs.Ordering.{nat_cmp}
use Rattle.plank_base.specs.declared.limits.TheConstants.{VARIABLES_LIMIT}
use Rattle.plank_prog.specs.declared.headers.Header.{Header}
use Rattle.plank_heap.specs.declared.heaps.Heap.{Heap}
use Rattle.plank_heap.specs.Heaps.{start_heap}
use Rattle.plank_heap.specs.contracts.heaps.Heap as heap_row
use Rattle.plank_sem.specs.declared.calls.Call.{Call}
use Rattle.plank_sem.specs.contracts.calls.Call as call_row

abbrev pub Calls : Type 0
Calls = FinMap nat_cmp Call

-- what a world is to contracts
pub record WorldState : Type 0 where
  pub heap : Heap
  pub calls : Calls

-- a world is told apart by the pair of its parts
abbrev pub world_code : Coded WorldState
world_code =
    code_by (Heap × Calls) (coded× heap_row.the_row.coded (code coded_ℕ call_row.the_row.coded)) (λ w. (w.heap, w.calls)) (λ p. record { heap = p.0; calls = p.1 }) (λ _. refl)

-- the world before any call
abbrev pub start_world : Header → WorldState
start_world h = record { heap = start_heap h; calls = empty }

-- a call that has just begun: at its method's first location, each variable null
abbrev pub fresh_call : ℕ → ℤ → Call
fresh_call method key = record { method = method; location = 0; key = key; variables = replicate VARIABLES_LIMIT None }
