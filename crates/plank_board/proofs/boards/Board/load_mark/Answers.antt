-- The table allows the event.
use Rattle.std.proofs.Common.{◌≡◌, ◌+◌, ◌<◌, refl, sym, subst, arith, rules}
use mathlib.Core.Option.{none}
use Rattle.atomic_table.specs.Table.{Allows, step}
use Rattle.plank_board.specs.Events.{loads}
use Rattle.plank_board.specs.Plays.{Holds, IsMade, load_told}
use Rattle.plank_board.proofs.Tells.{allows}
use Rattle.plank_board.proofs.boards.Board.load_mark.Goals as goal

pub load-requires : goal.load-requires
load-requires g c =
    let N = g.N.Named in
    let me = c.args.place.now.me in
    let id = c.self.inside.table.shared.table_id in
    let here : c.args.place.now.table_id ≡ id = search rules in
    subst (λ p. (c.args.place.now.table_id ≡ id) × (p < id.words) × Allows (Holds N.methods N.words N.forces N.still c.self.inside.table.shared.key) id.slots c.args.place.now.id me p (λ n. n) (load_told N.methods N.words N.forces (step id.slots p 0 0 none) me)) (sym c.mark_place.ensures) (
      here,
      omega (arith, c.self.invariant.0, c.requires.word),
      allows N.methods N.words N.forces N.still N.monotone c.self.inside.table.shared.key id.slots c.args.place.now.id me (loads c.args.i) (λ n. n) (load_told N.methods N.words N.forces (step id.slots (N.methods + 1 + c.args.i) 0 0 none) me) c.requires.ready.bare c.requires.ready.sits c.requires.word (λ n _. refl) (λ n after made i at. subst (λ q. IsMade N.methods N.words N.forces (loads q) me n after) (omega (arith, at)) made),
    )
