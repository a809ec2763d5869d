-- The set takes a name that is not in it, and contracts see it at the end.
use Rattle.std.proofs.Common.{rules, ◌≡◌, ◌∙◌, ap, not}
use Rattle.plank_rules.specs.Declarations.{same_name, is_among, with_name}
use Rattle.plank_rules.proofs.NameSets.{seen, list_any-seen, seen-insert}
use Rattle.plank_rules.proofs.names.Names.add.Goals as goal
use Rattle.plank_rules.proofs.names.Names.add.Goals.{in-Ok, in-Err}

pub returns-clause-added : goal.returns-clause-added
returns-clause-added c = elim c.match-insert_full.branch [
  | in-Ok w ↦ (
      let view : seen c.self.inside.set.keys ≡ c.args.self.now = c.self.view_is in
      rw w.result-is (w.in-Ok.ensures.added
      ∙ ap not (list_any-seen (same_name c.args.name.now) c.self.inside.set.keys ∙ ap (λ names. is_among names c.args.name.now) view)))
  | in-Err w ↦ rw w.result-is (search rules)
]

pub returns-clause-names : goal.returns-clause-names
returns-clause-names c = elim c.match-insert_full.branch [
  | in-Ok w ↦ (
      let view : seen c.self.inside.set.keys ≡ c.args.self.now = c.self.view_is in
      rw w.result-is (ap seen w.in-Ok.ensures.keys ∙ seen-insert c.self.inside.set.keys c.args.name
      ∙ ap (λ names. with_name names c.args.name.now) view))
  | in-Err w ↦ rw w.result-is (search rules)
]
