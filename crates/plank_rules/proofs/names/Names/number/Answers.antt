-- The set numbers the names that contracts see.
use Rattle.std.proofs.Common.{◌≡◌, ◌∙◌, ap}
use Rattle.plank_rules.specs.Declarations.{same_name, number_of}
use Rattle.plank_rules.proofs.NameSets.{seen, position-seen}
use Rattle.plank_rules.proofs.names.Names.number.Goals as goal

pub returns-clause-number : goal.returns-clause-number
returns-clause-number c =
    let view : seen c.self.inside.set.keys ≡ c.args.self.now = c.self.view_is in
    c.get_index_of.ensures.index ∙ position-seen (same_name c.args.name.now) c.self.inside.set.keys ∙ ap (λ names. number_of c.args.name.now names) view
