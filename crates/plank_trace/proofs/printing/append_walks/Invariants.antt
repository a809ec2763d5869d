-- What is written and what is to come.
use Rattle.std.proofs.Common.{◌≡◌, ◌++◌, drop}
use Rattle.plank_trace.specs.Texts.{walks_text}
use Rattle.plank_trace.proofs.printing.append_walks.Given as goal

abbrev pub invariant-loop-key : goal.invariant-loop-key
invariant-loop-key l =
    l.out.items ++ walks_text l.program.header l.heap (drop l.key-index l.keys) ≡ l.initial.out.items ++ walks_text l.program.header l.heap l.keys
