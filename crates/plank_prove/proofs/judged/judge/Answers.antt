-- Threads may share the decider, by a lemma: a search through the whole program gives up at a limit.
use denote.Param.Send.{sendable}
use Rattle.plank_solve.proofs.solver.Solver.TheSendSync as solver
use Rattle.plank_prove.proofs.Sharing.{decider}
use Rattle.plank_prove.proofs.judged.judge.Goals as goal

pub marks_by_workers-requires-sync-D : goal.marks_by_workers-requires-sync-D
marks_by_workers-requires-sync-D g c κs within = search (sendable, decider, solver.the_sync)
