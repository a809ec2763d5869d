-- What the unit's run finds.
use Rattle.std.proofs.Common.{◌≡◌, ◌+◌, ◌*◌, cond, sym, ap, ◌∙◌, arith}
use Rattle.std.specs.Prelude.{Bool}
use Rattle.plank_prog.specs.declared.programs.Program.{Program}
use Rattle.plank_fact.specs.Outlines.{location_number}
use Rattle.plank_method.proofs.UnitMarks.{found_by_steps, still_by_steps, found_by_others, still_by_others}
use Rattle.plank_method.proofs.provers.ProverForcing.force.Goals as goal

pub returns-in_ok-broken-clause-found : goal.returns-in_ok-broken-clause-found
returns-in_ok-broken-clause-found g c =
    let p = g.D.Deciding.program c.args.self.now.deciding.now in
    let at = c.unit_at-unit.result.at in
    let is : 2 * location_number p.methods at.method at.location + 1 ≡ c.args.m = ap (λ (q : Program). 2 * location_number q.methods at.method at.location + 1) (sym c.program.ensures) ∙ ap (λ (b : Bool). 2 * location_number c.program.result.now.methods at.method at.location + cond b 1 0) (sym c.if-unit.true) ∙ c.unit_at-unit.ensures.number in
    found_by_others p c.args.marks.now c.args.m (location_number p.methods at.method at.location) c.in_ok-broken.broken c.in_ok-broken.ensures (sym is)

pub returns-in_ok-broken-clause-still : goal.returns-in_ok-broken-clause-still
returns-in_ok-broken-clause-still g c =
    let p = g.D.Deciding.program c.args.self.now.deciding.now in
    let at = c.unit_at-unit.result.at in
    let is : 2 * location_number p.methods at.method at.location + 1 ≡ c.args.m = ap (λ (q : Program). 2 * location_number q.methods at.method at.location + 1) (sym c.program.ensures) ∙ ap (λ (b : Bool). 2 * location_number c.program.result.now.methods at.method at.location + cond b 1 0) (sym c.if-unit.true) ∙ c.unit_at-unit.ensures.number in
    still_by_others p c.args.marks.now c.args.m (location_number p.methods at.method at.location) c.in_ok-broken.broken c.in_ok-broken.ensures (sym is)

pub returns-in_ok-refuted-clause-found : goal.returns-in_ok-refuted-clause-found
returns-in_ok-refuted-clause-found g c =
    let p = g.D.Deciding.program c.args.self.now.deciding.now in
    let at = c.unit_at-unit.result.at in
    let is : 2 * location_number p.methods at.method at.location + 0 ≡ c.args.m = ap (λ (q : Program). 2 * location_number q.methods at.method at.location + 0) (sym c.program.ensures) ∙ ap (λ (b : Bool). 2 * location_number c.program.result.now.methods at.method at.location + cond b 1 0) (sym c.if-unit.false) ∙ c.unit_at-unit.ensures.number in
    found_by_steps p c.args.marks.now c.args.m (location_number p.methods at.method at.location) c.in_ok-refuted.refuted c.in_ok-refuted.ensures (omega (arith, is))

pub returns-in_ok-refuted-clause-still : goal.returns-in_ok-refuted-clause-still
returns-in_ok-refuted-clause-still g c =
    let p = g.D.Deciding.program c.args.self.now.deciding.now in
    let at = c.unit_at-unit.result.at in
    let is : 2 * location_number p.methods at.method at.location + 0 ≡ c.args.m = ap (λ (q : Program). 2 * location_number q.methods at.method at.location + 0) (sym c.program.ensures) ∙ ap (λ (b : Bool). 2 * location_number c.program.result.now.methods at.method at.location + cond b 1 0) (sym c.if-unit.false) ∙ c.unit_at-unit.ensures.number in
    still_by_steps p c.args.marks.now c.args.m (location_number p.methods at.method at.location) c.in_ok-refuted.refuted c.in_ok-refuted.ensures (omega (arith, is))
