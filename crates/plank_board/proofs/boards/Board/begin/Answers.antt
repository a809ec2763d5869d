-- The table allows the event.
use Rattle.std.proofs.Common.{◌≡◌, refl, arith, rules}
use Rattle.plank_board.specs.Events.{begins}
use Rattle.plank_board.specs.Plays.{IsMade}
use Rattle.plank_board.proofs.Tells.{allows}
use Rattle.plank_board.proofs.boards.Board.begin.Goals as goal

pub load-requires : goal.load-requires
load-requires g c =
    let N = g.N.Named in
    let ready = c.requires in
    let me = c.args.place.now.me in
    let here : c.args.place.now.table_id ≡ c.self.inside.table.shared.table_id = search rules in (
      here,
      omega (arith, c.self.invariant.0),
      allows N.methods N.words N.forces N.still N.monotone c.self.inside.table.shared.key c.self.inside.table.shared.table_id.slots c.args.place.now.id me begins (λ n. n) (IsMade N.methods N.words N.forces begins me) ready.bare ready.sits tt (λ n _. refl) (λ n after made. made),
    )
