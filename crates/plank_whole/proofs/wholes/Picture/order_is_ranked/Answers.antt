-- A row that is not ranked.
use Rattle.std.proofs.Common.{sym, ◌∙◌, arith}
use Rattle.plank_lawful.proofs.Asked.{one_fails}
use Rattle.plank_whole.specs.Wholes.{frame_of, shown}
use Rattle.plank_whole.specs.Ranks.{row_is_ranked, term_count}
use Rattle.plank_whole.proofs.wholes.Picture.order_is_ranked.Goals as goal

pub returns-then-not-row_is_ranked : goal.returns-then-not-row_is_ranked
returns-then-not-row_is_ranked c =
    let end = c.count-left-end.ensures in
    sym (one_fails (row_is_ranked (frame_of c.args.self.now) (shown c.args.self.now) c.args.ranks.now) (term_count (frame_of c.args.self.now))
    c.loop-left.left (omega (arith, end)) (sym c.row_is_ranked.ensures ∙ c.if-not-row_is_ranked.true))
