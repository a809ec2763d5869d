use Rattle.plank_top.specs.Endings.{answered}
use Rattle.plank_top.specs.Replies.{answer_in}
use Rattle.plank_top.proofs.entry.tell_large.Goals as goal

pub returns-in-Ok : goal.returns-in-Ok
returns-in-Ok g c = answered (answer_in c.in-Ok.reply) c.in-Ok.ensures c.finish.ensures
