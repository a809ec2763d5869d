-- The table allows the event.
use Rattle.std.proofs.Common.{◌≡◌, ◌+◌, ◌%◌, ◌^◌, refl, arith, rules}
use Rattle.std.proofs.Math.Nat.{mod-eq_of_lt}
use Rattle.plank_board.specs.Events.{raises}
use Rattle.plank_board.specs.Plays.{IsMade}
use Rattle.plank_board.proofs.Tells.{allows}
use Rattle.plank_board.proofs.boards.Board.raise.Goals as goal

pub fetch_add-requires : goal.fetch_add-requires
fetch_add-requires g c =
    let N = g.N.Named in
    let ready = c.requires.ready in
    let me = c.args.place.now.me in
    let here : c.args.place.now.table_id ≡ c.self.inside.table.shared.table_id = search rules in (
      here,
      omega (arith, c.self.invariant.0),
      allows N.methods N.words N.forces N.still N.monotone c.self.inside.table.shared.key c.self.inside.table.shared.table_id.slots c.args.place.now.id me raises (λ n. (n + 1) % 2 ^ 64) (IsMade N.methods N.words N.forces raises me) ready.bare ready.sits c.requires.may (λ n low. mod-eq_of_lt (low refl)) (λ n after made. made),
    )
