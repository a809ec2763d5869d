-- A term that is not ranked.
use Rattle.std.proofs.Common.{sym, ◌∙◌, arith}
use Rattle.plank_lawful.proofs.Asked.{one_fails}
use Rattle.plank_whole.specs.Wholes.{frame_of, shown}
use Rattle.plank_whole.specs.Ranks.{is_ranked, term_count}
use Rattle.plank_whole.proofs.wholes.Picture.row_is_ranked.Goals as goal

pub returns-then-not-is_ranked : goal.returns-then-not-is_ranked
returns-then-not-is_ranked c =
    let end = c.count-right-end.ensures in
    sym (one_fails (is_ranked (frame_of c.args.self.now) (shown c.args.self.now) c.args.ranks.now c.args.left) (term_count (frame_of c.args.self.now))
    c.loop-right.right (omega (arith, end)) (sym c.is_ranked.ensures ∙ c.if-not-is_ranked.true))
