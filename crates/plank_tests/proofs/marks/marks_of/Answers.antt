-- Threads may share the decider, by the lemma of the crate that finds the marks.
use denote.Param.Send.{sendable}
use Rattle.plank_solve.proofs.solver.Solver.TheSendSync as solver
use Rattle.plank_prove.proofs.Sharing.{decider}
use Rattle.plank_tests.proofs.marks.marks_of.Goals as goal

pub marks_by_workers-requires-sync-D : goal.marks_by_workers-requires-sync-D
marks_by_workers-requires-sync-D g c κs within = search (sendable, decider, solver.the_sync)
