use Rattle.std.proofs.Common.{sym, ap, ◌∙◌}
use Rattle.plank_prog.specs.declared.programs.Program.{Program}
use Rattle.plank_method.specs.Runs.{leads}
use Rattle.plank_method.proofs.Exits.{none_leads, after_left}
use Rattle.plank_method.proofs.runs.Locations.after_exit.Goals as goal

pub returns-then-not-leads : goal.returns-then-not-leads
returns-then-not-leads g c =
    none_leads (g.D.Deciding.program c.args.self.now.deciding.now) c.args.self.now.marks.now c.args.self.now.method c.args.from c.args.exit c.args.location c.args.claimed.now
    (ap (λ (p : Program). leads p.methods c.args.self.now.method c.args.from c.args.exit c.args.location) (sym c.program.ensures) ∙ sym c.leads.ensures ∙ c.if-not-leads.true)

pub returns : goal.returns
returns g c =
    after_left (g.D.Deciding.program c.args.self.now.deciding.now) c.args.self.now.marks.now c.args.self.now.method c.args.from c.args.exit c.args.location c.args.claimed.now c.in_ok-known.known c.meet.result
    (ap (λ (p : Program). leads p.methods c.args.self.now.method c.args.from c.args.exit c.args.location) (sym c.program.ensures) ∙ sym c.leads.ensures ∙ c.if-not-leads.false) c.meet.ensures c.in_ok-known.ensures
