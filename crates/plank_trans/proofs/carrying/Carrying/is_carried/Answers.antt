use Rattle.std.proofs.Common.{sym, ◌∙◌, subst, arith}
use Rattle.std.specs.Prelude.{◌↔◌, IsTrue}
use Rattle.plank_fact.specs.Tables.{name_count}
use Rattle.plank_method.specs.Deciding.{outline_of}
use Rattle.plank_trans.specs.Carried.{IsCarriedBelow}
use Rattle.plank_trans.proofs.Carries.{name_within, named_carried, nameless_carried}
use Rattle.plank_trans.proofs.carrying.Carrying.is_carried.Goals as goal

pub returns-then-to-self : goal.returns-then-to-self
returns-then-to-self c = λ x w is.
    let s = c.args.self.now in
    let O = outline_of s.program.now s.marks.now in
    let L = c.args.literal in
    let names = sym c.past_name.ensures ∙ c.in-Some.is in
    let below = subst (λ n. IsTrue c.is_carried_to.result ↔ IsCarriedBelow O x s.turn.exit L n (name_count x.method)) c.number_of-to.ensures
    (subst (λ n. IsTrue c.is_carried_to.result ↔ IsCarriedBelow O x s.turn.exit L c.number_of-to.result n) (s.names_are x w) (c.is_carried_to.ensures x w)) in
    let both = named_carried O x s.turn.exit L is c.in-Some.name names in
    (λ e. both.0 (below.0 e), λ v. below.1 (both.1 v))

pub returns-else-to-self : goal.returns-else-to-self
returns-else-to-self c = λ x w is.
    let s = c.args.self.now in
    let within = name_within s.program.now.header x.method is.0 c.args.literal c.in-Some.name is.1 (sym c.past_name.ensures ∙ c.in-Some.is) in
    let count = s.names_are x w in
    let to = c.number_of-to.ensures in
    let past = c.if-to-self.false in
    let none : ⊥ = omega (arith, within, count, to, past) in
    (λ e. absurd none, λ v. absurd none)

pub returns-in-None : goal.returns-in-None
returns-in-None c = λ x w is.
    let s = c.args.self.now in
    let both = nameless_carried (outline_of s.program.now s.marks.now) x s.turn.exit c.args.literal is (sym c.past_name.ensures ∙ c.in-None.is) in
    let claimed = c.is_claimed.ensures x w.of_method w.of_location in
    (λ e. both.0 (claimed.0 e), λ v. claimed.1 (both.1 v))
