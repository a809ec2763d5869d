use Rattle.plank_type.proofs.WithinLimits.{few_methods, few_names, first_small, others_small}
use Rattle.plank_type.proofs.laws.limits_hold.Goals as goal

pub returns : goal.returns
returns c = λ t h. record { methods = few_methods t h; names = few_names t h; first = first_small t h; others = others_small t h }
