-- Parts that are left by the written name alone.
use Rattle.plank_step.specs.Turns.{change_over}
use Rattle.plank_step.proofs.Lefts.{chain_settles, pick_settles, stop_flag_settles}
use Rattle.plank_step.proofs.stepping.written.Goals as goal

pub returns-in-StopFlag : goal.returns-in-StopFlag
returns-in-StopFlag g c =
    stop_flag_settles (g.S.Reader.frame c.args.before.now) (g.S.Reader.picture c.args.before.now) (g.S.Reader.known c.args.before.now) (change_over (g.T.TakesTurn.turn c.args.turn.now) c.args.writes.now)
    c.written_name-at.result c.written_name-at.ensures c.args.part c.in-StopFlag.key c.in-StopFlag.slot c.in-StopFlag.flag c.in-StopFlag.is c.stop_flag_left.result c.stop_flag_left.ensures

pub returns-in-Chain : goal.returns-in-Chain
returns-in-Chain g c =
    chain_settles (g.S.Reader.frame c.args.before.now) (g.S.Reader.picture c.args.before.now) (g.S.Reader.known c.args.before.now) (change_over (g.T.TakesTurn.turn c.args.turn.now) c.args.writes.now)
    c.written_name-at.result c.written_name-at.ensures c.args.part c.in-Chain.from c.in-Chain.to c.in-Chain.is c.chain_left.result c.chain_left.ensures

pub returns-in-Picks : goal.returns-in-Picks
returns-in-Picks g c =
    pick_settles (g.S.Reader.frame c.args.before.now) (g.S.Reader.picture c.args.before.now) (g.S.Reader.known c.args.before.now) (change_over (g.T.TakesTurn.turn c.args.turn.now) c.args.writes.now)
    c.written_name-at.result c.written_name-at.ensures c.args.part c.in-Picks.key c.in-Picks.from c.in-Picks.to c.in-Picks.slot c.in-Picks.is c.pick_left.result c.pick_left.ensures
