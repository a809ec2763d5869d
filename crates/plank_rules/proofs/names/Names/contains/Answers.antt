-- The set finds the names that contracts see.
use Rattle.std.proofs.Common.{◌≡◌, ◌∙◌, ap}
use Rattle.plank_rules.specs.Declarations.{same_name, is_among}
use Rattle.plank_rules.proofs.NameSets.{seen, list_any-seen}
use Rattle.plank_rules.proofs.names.Names.contains.Goals as goal

pub returns : goal.returns
returns c =
    let view : seen c.self.inside.set.keys ≡ c.args.self.now = c.self.view_is in
    c.contains.ensures ∙ list_any-seen (same_name c.args.name.now) c.self.inside.set.keys ∙ ap (λ names. is_among names c.args.name.now) view
