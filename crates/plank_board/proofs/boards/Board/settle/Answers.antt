-- The table allows the event.
use Rattle.std.proofs.Common.{◌≡◌, ◌+◌, max, subst, ap, arith, rules}
use mathlib.Core.Option.{none}
use Rattle.atomic_table.specs.Table.{step}
use Rattle.plank_board.specs.Events.{settles}
use Rattle.plank_board.specs.Plays.{IsMade, settle_told}
use Rattle.plank_board.proofs.Tells.{allows}
use Rattle.plank_board.proofs.boards.Board.settle.Goals as goal

pub fetch_max-requires : goal.fetch_max-requires
fetch_max-requires g c =
    let N = g.N.Named in
    let ready = c.requires.ready in
    let me = c.args.place.now.me in
    let here : c.args.place.now.table_id ≡ c.self.inside.table.shared.table_id = search rules in (
      here,
      omega (arith, c.self.invariant.0, c.requires.may.0),
      allows N.methods N.words N.forces N.still N.monotone c.self.inside.table.shared.key c.self.inside.table.shared.table_id.slots c.args.place.now.id me (settles c.args.m) (λ n. max n c.args.next) (settle_told N.methods N.words N.forces (step c.self.inside.table.shared.table_id.slots (c.args.m + 1) c.args.next 0 none) me) ready.bare ready.sits c.requires.may (λ n _. ap (max n) c.requires.next) (λ n after made m at. subst (λ q. IsMade N.methods N.words N.forces (settles q) me n after) (omega (arith, at)) made),
    )
