-- What was loaded is forced.
use Rattle.std.proofs.Common.{◌≡◌, true, subst}
use Rattle.plank_bits.specs.Words.{has}
use Rattle.plank_board.proofs.boards.Board.look.Goals as goal

pub returns-clause-least : goal.returns-clause-least
returns-clause-least g c = λ d closed k e.
    let s = c.load_all.ensures.loaded.sits in
    s.forced d closed k (s.looked k (subst (λ l. has l k ≡ true) c.load_all.ensures.into e))
