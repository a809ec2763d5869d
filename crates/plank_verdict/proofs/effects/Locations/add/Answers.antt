use Rattle.std.proofs.Common.{refl, sym, ◌∙◌, ap, List, [], ◌∷◌, ◌++◌}
use Rattle.std.proofs.lemmas.Bool.{false≢true}
use Rattle.plank_fact.specs.declared.facts.Fact.{Fact}
use Rattle.plank_judge.specs.declared.effects.Effect.{Effect}
use Rattle.plank_verdict.proofs.Listing.{one_more, none_more}
use Rattle.plank_verdict.proofs.effects.Locations.add.Goals as goal

pub returns-then-not-branch : goal.returns-then-not-branch
returns-then-not-branch g c =
    none_more c.args.self.now.program.now c.args.self.now.marks.now c.args.at.method c.args.at.location c.args.effects.now.items c.args.effects.now.items c.requires.so_far
    (λ v. false≢true (sym c.if-not-branch.true ∙ c.in_ok-is_effect.ensures.1 v)) refl

pub returns : goal.returns
returns g c =
    let told : List Fact → List Effect = λ fs. c.args.effects.now.items ++ record { method = c.args.at.method; location = c.args.at.location; facts = fs } ∷ [] in
    one_more c.args.self.now.program.now c.args.self.now.marks.now c.args.at.method c.args.at.location c.args.effects.now.items c.push.new.self.items c.requires.so_far
    c.in_ok-facts.facts.items (c.in_ok-is_effect.ensures.0 c.if-not-branch.false) c.in_ok-facts.ensures (c.in_ok-push.ensures.items ∙ ap told c.from_vec.ensures)
