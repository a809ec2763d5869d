use Rattle.std.proofs.Common.{◌∙◌, ap}
use Rattle.std.specs.Prelude.{List, Option, Bool, None, slice_set}
use Rattle.plank_search.proofs.Assigning.{with_value-reopened}
use Rattle.plank_search.proofs.Probing.{probed}
use Rattle.plank_search.proofs.steps.probe.Goals as goal

pub returns-clause-same : goal.returns-clause-same
returns-clause-same g c =
    c.reopen.ensures ∙ ap (λ (values : List (Option Bool)). slice_set values c.args.part None) c.suppose.ensures.written
    ∙ with_value-reopened c.args.values.now c.args.part c.args.value c.requires.part

pub returns-clause-told : goal.returns-clause-told
returns-clause-told g c =
    probed _ c.args.values.now c.args.part c.args.value c.look-look.result (rw c.suppose.ensures.written at c.look-look.ensures)
