-- The name is that of the forcing.
use Rattle.plank_crew_tests.proofs.seats.play_of.Given as goal

abbrev pub ghosts-play_named : goal.ghosts-play_named
ghosts-play_named g a = record {
  methods = g.F.Forcing.method_count a.forcing.now;
  words = g.F.Forcing.word_count a.forcing.now;
  forces = g.F.Forcing.forces a.forcing.now;
  still = g.F.Forcing.still a.forcing.now;
  monotone = g.F.Forcing.monotone a.forcing.now;
  closing = g.F.Forcing.closing a.forcing.now;
}
