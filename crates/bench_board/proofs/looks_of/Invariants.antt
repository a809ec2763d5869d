-- The name is that of the forcing.
use Rattle.bench_board.proofs.looks_of.Given as goal

abbrev pub ghosts-look_many : goal.ghosts-look_many
ghosts-look_many g a = record {
  methods = g.F.Forcing.method_count a.forcing.now;
  words = g.F.Forcing.word_count a.forcing.now;
  forces = g.F.Forcing.forces a.forcing.now;
  still = g.F.Forcing.still a.forcing.now;
  monotone = g.F.Forcing.monotone a.forcing.now;
  closing = g.F.Forcing.closing a.forcing.now;
}
