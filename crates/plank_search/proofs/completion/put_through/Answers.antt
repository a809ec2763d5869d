-- A put, and what follows from it.
use Rattle.plank_search.proofs.Completing.{fills}
use Rattle.plank_search.proofs.completion.put_through.Goals as goal

pub returns : goal.returns
returns g c = fills _ c.args.values.now c.put.new.self c.propagate.new.values c.args.literal.part c.args.literal.value c.propagate.result c.requires c.put.ensures.written c.propagate.ensures
