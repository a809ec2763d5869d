-- The table allows the event.
use Rattle.std.proofs.Common.{◌≡◌, ◌+◌, refl, subst, arith, rules}
use mathlib.Core.Option.{none}
use Rattle.atomic_table.specs.Table.{step}
use Rattle.plank_board.specs.Events.{notes}
use Rattle.plank_board.specs.Plays.{IsMade, note_told}
use Rattle.plank_board.proofs.Tells.{allows}
use Rattle.plank_board.proofs.boards.Board.note.Goals as goal

pub load-requires : goal.load-requires
load-requires g c =
    let N = g.N.Named in
    let ready = c.requires.ready in
    let me = c.args.place.now.me in
    let here : c.args.place.now.table_id ≡ c.self.inside.table.shared.table_id = search rules in (
      here,
      omega (arith, c.self.invariant.0, c.requires.method),
      allows N.methods N.words N.forces N.still N.monotone c.self.inside.table.shared.key c.self.inside.table.shared.table_id.slots c.args.place.now.id me (notes c.args.m) (λ n. n) (note_told N.methods N.words N.forces (step c.self.inside.table.shared.table_id.slots (c.args.m + 1) 0 0 none) me) ready.bare ready.sits c.requires.method (λ n _. refl) (λ n after made m at. subst (λ q. IsMade N.methods N.words N.forces (notes q) me n after) (omega (arith, at)) made),
    )
