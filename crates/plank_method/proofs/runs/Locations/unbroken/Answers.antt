use Rattle.plank_method.proofs.Sifting.{unbroken_left}
use Rattle.plank_method.proofs.runs.Locations.unbroken.Goals as goal

pub returns : goal.returns
returns g c =
    unbroken_left (g.D.Deciding.program c.args.self.now.deciding.now) c.args.self.now.marks.now c.args.self.now.method c.args.location c.args.claimed.now c.in_ok-broken.broken c.minus.result
    c.minus.ensures c.in_ok-broken.ensures
