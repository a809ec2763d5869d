-- The words are all 0.
use Rattle.std.proofs.Common.{◌≡◌, ◌+◌, ◌<◌, ◌^◌, List, [], ◌∷◌, ℕ, replicate, sym, subst, rules}
use Rattle.plank_board.specs.Events.{newcomer}
use Rattle.plank_board.specs.Rule.{IsKept}
use Rattle.plank_board.proofs.Keeps.{opening_kept}
use Rattle.plank_board.proofs.boards.Board.new.Goals as goal

pub of_words-requires : goal.of_words-requires
of_words-requires g c =
    let N = g.N.Named in
    let all : c.as_slice.result.now ≡ replicate (N.methods + 1 + N.words) 0 = search rules in
    let few : N.words < 2 ^ 32 = search rules in
    subst (λ (ws : List ℕ). IsKept N.methods N.words N.forces N.still c.args.seats ws (newcomer N.methods N.words c.args.seats ∷ [])) (sym all) (opening_kept N.methods N.words N.forces N.still N.monotone c.args.seats few)
