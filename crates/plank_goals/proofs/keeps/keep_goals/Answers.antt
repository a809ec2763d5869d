use Rattle.std.specs.Prelude.{◌++◌}
use Rattle.std.proofs.Common.{ap, ◌∙◌}
use Rattle.plank_goals.specs.Lists.{gathered}
use Rattle.plank_goals.specs.Named.{keeps_of}
use Rattle.plank_goals.specs.Hidden.{hidden_goals}
use Rattle.plank_goals.proofs.Said.{keeps_said}
use Rattle.plank_goals.proofs.keeps.keep_goals.Goals as goal

pub returns : goal.returns
returns c =
    let h = c.args.program.now.header in
    keeps_said h c.args.program.now.header_is_lawful c.args.names c.push_hidden.new.goals.items
    (c.in_ok-push_hidden.ensures ∙ ap (λ xs. xs ++ hidden_goals h c.args.names)
    (c.in_ok-push_keeps.ensures ∙ ap (λ xs. xs ++ gathered (keeps_of c.in_ok-keeps.keeps) c.args.names) c.new-goals.ensures.items ∙ ap (λ k. gathered (keeps_of k) c.args.names) c.in_ok-keeps.ensures))
