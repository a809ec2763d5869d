use Rattle.plank_method.proofs.Sifting.{entry_left}
use Rattle.plank_method.proofs.runs.Locations.at_entry.Goals as goal

pub returns : goal.returns
returns g c =
    entry_left (g.D.Deciding.program c.args.self.now.deciding.now) c.args.self.now.marks.now c.args.self.now.method c.args.location c.args.claimed.now c.in_ok-known.known c.meet.result
    c.if-location-ne0.false c.meet.ensures c.in_ok-known.ensures
