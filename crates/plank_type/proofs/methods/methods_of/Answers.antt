-- The methods of a text within the limits are small.
use Rattle.plank_type.proofs.WithinLimits.{first_small, others_small}
use Rattle.plank_type.proofs.methods.methods_of.Goals as goal

pub methods_with-requires-clause-first : goal.methods_with-requires-clause-first
methods_with-requires-clause-first c = first_small c.args.limited.typed.now.text.now c.args.limited.within

pub methods_with-requires-clause-others : goal.methods_with-requires-clause-others
methods_with-requires-clause-others c = others_small c.args.limited.typed.now.text.now c.args.limited.within
