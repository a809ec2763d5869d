-- Within its limits a schedule has few lines; and it has no more keys than lines.
use Rattle.std.proofs.Common.{◌≡◌, ◌≤◌, inl, inr, sym, ◌∙◌, length, nat_lt, Some, None, List, ltb-false}
use Rattle.std.proofs.lemmas.Bool.{cases_Bool, cond-true}
use Rattle.std.proofs.lemmas.Option.{none-some}
use Rattle.plank_trace.specs.declared.lines.Line.{Line}
use Rattle.plank_trace.specs.declared.limits.Overrun.{Overrun}
use Rattle.plank_trace.specs.declared.limits.Measure.TheVariants.{Steps}
use Rattle.plank_trace.specs.Limits.{first_overrun}

pub few_steps : (lines : List Line) → first_overrun lines ≡ None → length lines ≤ 256
few_steps lines none =
    elim (cases_Bool (nat_lt 256 (length lines))) [
      | inl over ↦
          let told : Overrun = record { measure = Steps; count = length lines; limit = 256 } in
          absurd (none-some told (sym none ∙ cond-true (nat_lt 256 (length lines)) (Some told) _ over))
      | inr within ↦ ltb-false 256 (length lines) within
    ]
