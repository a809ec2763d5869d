use Rattle.std.proofs.Common.{sym, subst}
use Rattle.std.specs.Prelude.{OnOk}
use Rattle.plank_past.specs.Adding.{AddsGiven}
use Rattle.plank_past.proofs.Claims.{given_one}
use Rattle.plank_past.proofs.adding.add_given.Goals as goal

pub returns-in-Some : goal.returns-in-Some
returns-in-Some c = subst (λ given. OnOk c.add.result (AddsGiven c.args.claims.now.items c.add.new.claims.items given)) (sym c.in-Some.is)
    (given_one c.args.claims.now.items c.add.new.claims.items c.in-Some.literal _ c.add.result c.own.ensures c.add.ensures)
