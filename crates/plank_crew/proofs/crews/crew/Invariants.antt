-- The name is that of the forcing.
use Rattle.plank_crew.proofs.crews.crew.Given as goal

abbrev pub ghosts-crew_named : goal.ghosts-crew_named
ghosts-crew_named g a = record {
  methods = g.F.Forcing.method_count a.forcing.now;
  words = g.F.Forcing.word_count a.forcing.now;
  forces = g.F.Forcing.forces a.forcing.now;
  still = g.F.Forcing.still a.forcing.now;
  monotone = g.F.Forcing.monotone a.forcing.now;
  closing = g.F.Forcing.closing a.forcing.now;
}
