-- What a search asks of the two pictures of a question, one thing at a time: the rules of lawful and of possible pictures,
-- the names that fit, the step part by part, the claims, and of each goal that is switched on that it holds.
use Rattle.std.specs.Prelude.{ℕ, Bool, true, false, not, ◌||◌, List, [], ◌∷◌}
use Rattle.std.specs.Bool.{beq}
use Rattle.std.specs.Option.{option_map_or}
use Rattle.plank_prog.specs.declared.blocks.Write.{Write}
use Rattle.plank_pic.specs.Frames.{Frame}
use Rattle.plank_pic.specs.Pictures.{Picture}
use Rattle.plank_pic.specs.Lawful.{◌⇒◌}
use Rattle.plank_pic.specs.Steps.{Change}
use Rattle.plank_pic.specs.Blocks.{Turn, runs}
use Rattle.plank_lawful.specs.Rules.{rule_holds}
use Rattle.plank_step.specs.Turns.{change_over}
use Rattle.plank_fact.specs.Writes.{moves, turns_wrongly, is_apart}
use Rattle.plank_query.specs.declared.goals.Goal.{Goal}
use Rattle.plank_query.specs.declared.situations.Situation.{Situation}
use Rattle.plank_query.specs.Situations.{is_fit}
use Rattle.plank_query.specs.Predicates.{holds}
use Rattle.plank_query.specs.Goals.{goal_holds, leads_against, enters_between}
use Rattle.plank_reach.specs.declared.stepping.Stepping.{Stepping}
use Rattle.plank_reach.specs.Steps.{step_of, turn_in, change_in, writes_rightly, is_left}
use Rattle.plank_stay.specs.declared.ways.Way.{Way}
use Rattle.plank_stay.specs.Stays.{stays}
use Rattle.plank_solve.specs.declared.asks.Ask.{Ask}

-- what a goal on writes looks for in a change
abbrev pub goal_of : Frame → Goal → Picture → Picture → Change → Bool
goal_of F (Goal.LeadsAgainst node f to) before after c = leads_against F before after node f to c
goal_of F Goal.MovesApart before after c = is_apart (moves F c before)
goal_of F (Goal.TurnsWrongly kind) before after c = turns_wrongly kind before (moves F c before)
goal_of F (Goal.EntersChain y q above below) before after c = enters_between F before y q above below c
goal_of F Goal.Anything before after c = false
goal_of F (Goal.Fails moment predicate) before after c = false
goal_of F Goal.ComesToNull before after c = false

-- where a step keeps each name its node, a visited node stays visited if the walks meet again
abbrev pub is_staying : Frame → Stepping → Picture → Picture → Way → Bool
is_staying F s before after w = not s.kept || option_map_or (λ c. stays F before after c w) (change_in s) true

-- the same of a turn's list of writes
abbrev pub stays_over : Frame → Turn → List Write → Picture → Picture → Way → Bool
stays_over F s [] before after w = true
stays_over F s (x ∷ xs) before after w = stays F before after (change_over s (x ∷ xs)) w

-- what is asked of the step, where there is one
abbrev pub asked_of_step : Frame → Stepping → Picture → Picture → Ask → Bool
asked_of_step F s before after Ask.Runs = runs F (turn_in s) before
asked_of_step F s before after Ask.Writes = writes_rightly (change_in s) before after
asked_of_step F s before after (Ask.Left part) = is_left F s before after part
asked_of_step F s before after (Ask.Stays w) = is_staying F s before after w
asked_of_step F s before after ask = true

abbrev pub step_ask_holds : Frame → Situation → Picture → Picture → Ask → Bool
step_ask_holds F S before after ask = option_map_or (λ s. asked_of_step F s before after ask) (step_of S) true

abbrev pub ask_holds : Frame → Situation → Picture → Picture → (ℕ → Bool) → Ask → Bool
ask_holds F S before after on (Ask.Lawful r) = rule_holds F r before
ask_holds F S before after on (Ask.Possible r) = rule_holds F r after
ask_holds F S before after on (Ask.Fits i) = is_fit S before i
ask_holds F S before after on (Ask.Before c) = beq (holds F.header S before c.predicate) c.value
ask_holds F S before after on (Ask.After c) = beq (holds F.header S after c.predicate) c.value
ask_holds F S before after on Ask.Runs = step_ask_holds F S before after Ask.Runs
ask_holds F S before after on Ask.Writes = step_ask_holds F S before after Ask.Writes
ask_holds F S before after on (Ask.Left part) = step_ask_holds F S before after (Ask.Left part)
ask_holds F S before after on (Ask.Stays w) = step_ask_holds F S before after (Ask.Stays w)
ask_holds F S before after on (Ask.Reaches n goal) = on n ⇒ goal_holds F.header S before after goal
