-- The seat has looked, and has seen no less than before; each question that is followed by another raised the epoch.
use Rattle.std.proofs.Common.{◌≡◌, ◌-◌, ◌*◌, length}
use Rattle.plank_board.specs.Events.{IsWhole}
use Rattle.plank_board.specs.Calls.{StaysSeated}
use Rattle.plank_crew.specs.Turns.{SeesMore}
use Rattle.plank_crew.proofs.rounds.next_method.Given as goal

abbrev pub invariant-loop-seat : goal.invariant-loop-seat
invariant-loop-seat g l = record {
  seat : StaysSeated g.N.Named.methods g.N.Named.words g.N.Named.forces l.initial.seat l.seat;
  more : SeesMore g.N.Named.methods l.initial.seat.view l.seat.view;
  whole : IsWhole g.N.Named.words l.seat.view;
  size : length l.look ≡ g.N.Named.words;
}

abbrev pub decreases-loop-seat : goal.decreases-loop-seat
decreases-loop-seat g l = 64 * g.N.Named.words - l.seat.view.epoch
