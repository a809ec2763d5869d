-- One more word: nothing of it is beyond the look, or its bits are set.
use Rattle.std.proofs.Common.{◌≡◌, ◌+◌, ◌<◌, ◌^◌, ◌∙◌, ap, slice_index, arith, rules}
use Rattle.plank_board.specs.declared.views.View.{View}
use Rattle.plank_board.specs.Events.{sets, seen}
use Rattle.plank_board.proofs.Loops.{forced_bits, nothing_beyond, set_skip, set_more}
use Rattle.plank_board.proofs.boards.Board.set_word.Goals as goal

pub set_marks-before-requires-clause-may : goal.set_marks-before-requires-clause-may
set_marks-before-requires-clause-may g c =
    let few : c.word-bits.result < 2 ^ 64 = search rules in
    λ _ _. (c.requires.places.1, c.requires.places.0, few, c.requires.look.1, forced_bits (g.N.Named.forces c.args.m) c.args.found.now c.args.look.now c.args.place.now.me.0.look c.args.i c.word-bits.result few c.word-bits.ensures c.requires.look.0 c.requires.forced)

pub returns-then-bits-word-eq0-clause-more : goal.returns-then-bits-word-eq0-clause-more
returns-then-bits-word-eq0-clause-more g c = λ before so_far.
    let N = g.N.Named in
    let few : c.word-bits.result < 2 ^ 64 = search rules in
    let low : c.word.result < 2 ^ 64 = search rules in
    let same : c.args.place.now.me.0.look ≡ before.look = ap (λ (u : View). u.look) so_far.same in
    set_skip N.methods N.words N.forces c.args.found.now before c.args.place.now.me.0 c.args.i
    (nothing_beyond c.args.found.now before.look c.args.i c.word-bits.result c.word.result few low c.word-bits.ensures (c.word.ensures ∙ ap (λ l. slice_index l c.args.i) (c.requires.look.0 ∙ same)) (search rules))
    same so_far

pub returns-then-grows-clause-more : goal.returns-then-grows-clause-more
returns-then-grows-clause-more g c = λ before so_far.
    let N = g.N.Named in
    let v = c.args.place.now.me.0 in
    let found = c.args.found.now in
    let made = c.set_marks-before.ensures.made in
    let n = c.set_marks-before.result in
    let few : c.word-bits.result < 2 ^ 64 = search rules in
    let low : n < 2 ^ 64 = search rules in
    set_more N.methods N.words N.forces found before v c.set_marks-before.new.place.me.0 c.args.m c.args.i n (N.methods + 1 + c.args.i) c.requires.places.1 low (omega (arith, c.word-bits.ensures, few)) so_far
    (ap (λ m. m.0) made.seen ∙ ap (λ b. seen v (sets c.args.m c.args.i b) n) c.word-bits.ensures) made.sits made.further

pub returns-else-grows-clause-more : goal.returns-else-grows-clause-more
returns-else-grows-clause-more g c = λ before so_far.
    let N = g.N.Named in
    let v = c.args.place.now.me.0 in
    let found = c.args.found.now in
    let made = c.set_marks-before.ensures.made in
    let n = c.set_marks-before.result in
    let few : c.word-bits.result < 2 ^ 64 = search rules in
    let low : n < 2 ^ 64 = search rules in
    set_more N.methods N.words N.forces found before v c.set_marks-before.new.place.me.0 c.args.m c.args.i n (N.methods + 1 + c.args.i) c.requires.places.1 low (omega (arith, c.word-bits.ensures, few)) so_far
    (ap (λ m. m.0) made.seen ∙ ap (λ b. seen v (sets c.args.m c.args.i b) n) c.word-bits.ensures) made.sits made.further
