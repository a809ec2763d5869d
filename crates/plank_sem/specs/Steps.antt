-- One step of a thread in a world: an invocation, or the action at the location of its pending call.
use Rattle.std.specs.Prelude.{ℕ, ℤ, List, Option, Some, None, slice_get, option_map, option_and_then}
use Rattle.std.specs.Option.{option_map_or}
use Rattle.std.specs.FinMap.{get, insert, remove}
use Rattle.plank_base.specs.declared.keys.ThreadId.{ThreadId}
use Rattle.plank_base.specs.declared.operations.Op.{Op}
use Rattle.plank_prog.specs.declared.methods.Action.{Action}
use Rattle.plank_prog.specs.declared.methods.Method.{Method}
use Rattle.plank_prog.specs.Methods.{operation}
use Rattle.plank_hist.specs.declared.events.Event.{Event}
use Rattle.plank_hist.specs.declared.events.Event.TheVariants.{Invoke as invocation, Respond as response}
use Rattle.plank_sem.specs.declared.calls.Call.{Call}
use Rattle.plank_sem.specs.declared.steps.Act.{Act}
use Rattle.plank_sem.specs.declared.steps.Act.TheVariants.{Invoke, Go}
use Rattle.plank_sem.specs.declared.steps.Choice.{Choice}
use Rattle.plank_sem.specs.Worlds.{WorldState, fresh_call}
use Rattle.plank_sem.specs.Actions.{After, block_run, copied, allocated}

-- what a choice leads to
pub data Next : Type 0 where
  -- an event, where the step tells one, and the world after it
  stepped : Option Event → WorldState → Next
  -- nothing: the thread cannot move so
  refused : Next
  -- nothing: the thread would read or write a field of null
  null_read : Next

-- the operation of the method of a call; none of an upkeep
abbrev pub op_of : List Method → Call → Option Op
op_of methods call = option_and_then (λ m. operation m.kind) (slice_get methods call.method)

-- a thread without a call begins one of a method that is there, and tells so where the method is no upkeep
abbrev pub begun : WorldState → ThreadId → ℕ → ℤ → Option Call → Option Method → Next
begun w thread m key None (Some method) =
    stepped (option_map (λ op. invocation thread op key) (operation method.kind)) (record w { calls = insert w.calls thread.0 (fresh_call m key) })
begun w thread m key None None = refused
begun w thread m key (Some call) method = refused

-- the call of a thread goes on
abbrev pub went_on : WorldState → ThreadId → Option After → Next
went_on w thread None = null_read
went_on w thread (Some after) =
    stepped None (record { heap = after.heap; calls = insert w.calls thread.0 after.call })

-- the call of a thread ends
abbrev pub ended : WorldState → ThreadId → WorldState
ended w thread = record w { calls = remove w.calls thread.0 }

-- one action of a call; a return tells its answer where the method is no upkeep
abbrev pub performed : List Method → WorldState → ThreadId → Call → Action → Next
performed methods w thread call (Action.Block b) = went_on w thread (block_run w.heap thread call b)
performed methods w thread call (Action.Copy to from next) = went_on w thread (Some (copied w.heap call to from next))
performed methods w thread call (Action.New to next) = went_on w thread (Some (allocated w.heap call to next))
performed methods w thread call (Action.Return answer) =
    stepped (option_map (λ op. response thread answer) (op_of methods call)) (ended w thread)

-- the action at the location of a call
abbrev pub action_of : List Method → Call → Option Action
action_of methods call =
    option_map (λ l. l.action) (option_and_then (λ m. slice_get m.locations call.location) (slice_get methods call.method))

-- a thread with a call goes on with it
abbrev pub gone_on : List Method → WorldState → ThreadId → Option Call → Next
gone_on methods w thread None = refused
gone_on methods w thread (Some call) = option_map_or (performed methods w thread call) (action_of methods call) refused

abbrev pub acted : List Method → WorldState → ThreadId → Act → Next
acted methods w thread (Invoke m key) = begun w thread m key (get w.calls thread.0) (slice_get methods m)
acted methods w thread Go = gone_on methods w thread (get w.calls thread.0)

-- what a choice leads to in a world
abbrev pub next : List Method → WorldState → Choice → Next
next methods w choice = acted methods w choice.thread choice.act
