-- The last state of the table meets the rule, and the words are its words of marks.
use Rattle.std.proofs.Common.{◌≡◌, ◌<◌, ℕ, true, length, sym, ◌∙◌, ap, subst, rules}
use Rattle.std.specs.Mem.Slots.{slots_items}
use Rattle.plank_bits.specs.Words.{has}
use Rattle.plank_board.specs.Words.{mark_word}
use Rattle.plank_board.specs.Seats.{Seated}
use Rattle.plank_board.proofs.Ends.{closed_seen, closed_forced, closed_least, closed_still}
use Rattle.plank_board.proofs.boards.Board.close.Goals as goal

pub returns-clause-seen : goal.returns-clause-seen
returns-clause-seen g c = λ k e.
    let N = g.N.Named in
    let final = c.close_with-closed.ensures.values.2 in
    let s = final.0 in
    let place = c.seat.inside.place in
    let last = c.copy_marks.new.last in
    let size : length last ≡ N.words = c.copy_marks.ensures.size ∙ c.self.invariant.4 in
    let copied = λ (j : ℕ) (h : j < N.words). c.copy_marks.ensures.marks j (subst (λ n. j < n) (sym c.self.invariant.4) h) ∙ ap (λ m. mark_word m (slots_items c.close_with-closed.result.words) j) c.self.invariant.2 ∙ ap (λ ws. mark_word N.methods ws j) (sym final.2) in
    closed_seen N.methods N.words N.forces N.still c.self.inside.table.shared.key s.words s.views final.1.0 place.id place.me.0 final.1.1 last size copied k (subst (λ (x : Seated). has x.view.marks k ≡ true) (sym c.seat.view_is) e)

pub returns-clause-forced : goal.returns-clause-forced
returns-clause-forced g c =
    let N = g.N.Named in
    let final = c.close_with-closed.ensures.values.2 in
    let s = final.0 in
    let place = c.seat.inside.place in
    let last = c.copy_marks.new.last in
    let size : length last ≡ N.words = c.copy_marks.ensures.size ∙ c.self.invariant.4 in
    let copied = λ (j : ℕ) (h : j < N.words). c.copy_marks.ensures.marks j (subst (λ n. j < n) (sym c.self.invariant.4) h) ∙ ap (λ m. mark_word m (slots_items c.close_with-closed.result.words) j) c.self.invariant.2 ∙ ap (λ ws. mark_word N.methods ws j) (sym final.2) in
    closed_forced N.methods N.words N.forces N.still c.self.inside.table.shared.key s.words s.views final.1.0 place.id place.me.0 final.1.1 last size copied

pub returns-clause-least : goal.returns-clause-least
returns-clause-least g c = λ left.
    let N = g.N.Named in
    let final = c.close_with-closed.ensures.values.2 in
    let s = final.0 in
    let place = c.seat.inside.place in
    let last = c.copy_marks.new.last in
    let size : length last ≡ N.words = c.copy_marks.ensures.size ∙ c.self.invariant.4 in
    let copied = λ (j : ℕ) (h : j < N.words). c.copy_marks.ensures.marks j (subst (λ n. j < n) (sym c.self.invariant.4) h) ∙ ap (λ m. mark_word m (slots_items c.close_with-closed.result.words) j) c.self.invariant.2 ∙ ap (λ ws. mark_word N.methods ws j) (sym final.2) in
    let all : place.me.0.parts ≡ c.self.inside.table.shared.key = search rules in
    closed_least N.methods N.words N.forces N.still c.self.inside.table.shared.key s.words s.views final.1.0 place.id place.me.0 final.1.1 last size copied all c.seat.invariant.2 (subst (λ (x : Seated). x.view.raised < x.view.left) (sym c.seat.view_is) left) N.closing

pub returns-clause-still : goal.returns-clause-still
returns-clause-still g c = λ left.
    let N = g.N.Named in
    let final = c.close_with-closed.ensures.values.2 in
    let s = final.0 in
    let place = c.seat.inside.place in
    let last = c.copy_marks.new.last in
    let size : length last ≡ N.words = c.copy_marks.ensures.size ∙ c.self.invariant.4 in
    let copied = λ (j : ℕ) (h : j < N.words). c.copy_marks.ensures.marks j (subst (λ n. j < n) (sym c.self.invariant.4) h) ∙ ap (λ m. mark_word m (slots_items c.close_with-closed.result.words) j) c.self.invariant.2 ∙ ap (λ ws. mark_word N.methods ws j) (sym final.2) in
    let all : place.me.0.parts ≡ c.self.inside.table.shared.key = search rules in
    closed_still N.methods N.words N.forces N.still c.self.inside.table.shared.key s.words s.views final.1.0 place.id place.me.0 final.1.1 last size copied all c.seat.invariant.2 (subst (λ (x : Seated). x.view.raised < x.view.left) (sym c.seat.view_is) left)
