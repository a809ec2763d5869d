-- The table allows the event.
use Rattle.std.proofs.Common.{◌≡◌, ◌+◌, ◌<◌, bit_or, refl, sym, subst, arith, rules}
use mathlib.Core.Option.{none}
use Rattle.atomic_table.specs.Table.{Allows, step}
use Rattle.plank_board.specs.Events.{sets}
use Rattle.plank_board.specs.Plays.{Holds, IsMade, set_told}
use Rattle.plank_board.proofs.Tells.{allows}
use Rattle.plank_board.proofs.boards.Board.set_marks.Goals as goal

pub fetch_or-requires : goal.fetch_or-requires
fetch_or-requires g c =
    let N = g.N.Named in
    let me = c.args.place.now.me in
    let id = c.self.inside.table.shared.table_id in
    let here : c.args.place.now.table_id ≡ id = search rules in
    subst (λ p. (c.args.place.now.table_id ≡ id) × (p < id.words) × Allows (Holds N.methods N.words N.forces N.still c.self.inside.table.shared.key) id.slots c.args.place.now.id me p (λ n. bit_or n c.args.bits) (set_told N.methods N.words N.forces (step id.slots p c.args.bits 0 none) me)) (sym c.mark_place.ensures) (
      here,
      omega (arith, c.self.invariant.0, c.requires.may.0),
      allows N.methods N.words N.forces N.still N.monotone c.self.inside.table.shared.key id.slots c.args.place.now.id me (sets c.args.m c.args.i c.args.bits) (λ n. bit_or n c.args.bits) (set_told N.methods N.words N.forces (step id.slots (N.methods + 1 + c.args.i) c.args.bits 0 none) me) c.requires.ready.bare c.requires.ready.sits c.requires.may (λ n _. refl) (λ n after made m i at. let same : c.args.i ≡ i = omega (arith, at) in subst (λ q. IsMade N.methods N.words N.forces (sets m q c.args.bits) me n after) same (record { seen = made.seen; sits = made.sits; further = made.further })),
    )
