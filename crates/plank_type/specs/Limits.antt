-- What a text has too much of: the first thing, in the order in which limits are tested.
use Rattle.std.specs.Prelude.{ℕ, min, ◌≤◌, ◌==◌, nat_le, List, [], ◌∷◌, length, is_some, sum_by, Option, Some, None, if◌then◌else◌}
use Rattle.std.specs.Option.{option_or}
use Rattle.plank_base.specs.declared.limits.Thing.{Thing}
use Rattle.plank_base.specs.declared.limits.TheConstants.{METHODS_LIMIT, VARIABLES_LIMIT, FROZEN_VARIABLES_LIMIT, FLAGS_LIMIT, POINTERS_LIMIT, NODES_LIMIT, LOCATIONS_LIMIT, SITES_LIMIT, EFFECT_FACTS_LIMIT}
use Rattle.plank_ast.specs.declared.methods.Method.{Method as MethodTree}
use Rattle.plank_ast.specs.declared.texts.Text.{Text}
use Rattle.plank_prog.specs.declared.headers.Header.{Header}
use Rattle.plank_prog.specs.declared.methods.Action.{Action}
use Rattle.plank_prog.specs.declared.methods.Method.{Method}
use Rattle.plank_prog.specs.Blocks.{name_count}
use Rattle.plank_prog.specs.Methods.{site_count, effect_fact_count}
use Rattle.plank_rules.specs.Declarations.{declared_variables, methods_of as method_trees}
use Rattle.plank_type.specs.declared.limits.Excess.{Excess}
use Rattle.plank_type.specs.Headers.{header_of}
use Rattle.plank_type.specs.Methods.{method_size, methods_of}

-- a number as it is told: one that does not fit 32 bits is told as the greatest that does
abbrev pub told : ℕ → ℕ
told n = min n 4294967295

-- what there is too much of, with its number
abbrev pub past_limit : Thing → ℕ → ℕ → Option Excess
past_limit thing count limit = if nat_le count limit then None else Some (record { thing = thing; count = count; limit = limit })

-- the first that a function gives of the items
abbrev pub first_given : {A : Type 0} → (A → Option Excess) → List A → Option Excess
first_given give [] = None
first_given give (x ∷ xs) = option_or (give x) (first_given give xs)

-- ---- of the text

-- a method with few enough variables and locations
pub record IsSmall (m : MethodTree) : Type 0 where
  pub variables : length (declared_variables m) ≤ VARIABLES_LIMIT
  pub locations : method_size m ≤ LOCATIONS_LIMIT

-- how many variables a method of the text may have
abbrev pub variables_limit : Text → ℕ
variables_limit t = if is_some t.freeze then FROZEN_VARIABLES_LIMIT else VARIABLES_LIMIT

-- the variables of a method that has too many
abbrev pub variables_excess : ℕ → MethodTree → Option Excess
variables_excess limit m = past_limit Thing.Variables (told (length (declared_variables m))) limit

abbrev pub header_excess : Text → Option Excess
header_excess t =
    option_or (past_limit Thing.Flags (told (length t.flags)) FLAGS_LIMIT)
    (option_or (past_limit Thing.Pointers (told (length t.pointers)) POINTERS_LIMIT)
    (past_limit Thing.Nodes (told (length t.starts)) NODES_LIMIT))

abbrev pub methods_excess : Text → Option Excess
methods_excess t =
    option_or (past_limit Thing.Methods (told (length (method_trees t))) METHODS_LIMIT) (first_given (variables_excess (variables_limit t)) (method_trees t))

abbrev pub text_size : Text → ℕ
text_size t = sum_by method_size (method_trees t)

abbrev pub text_excess : Text → Option Excess
text_excess t =
    option_or (methods_excess t) (option_or (header_excess t) (past_limit Thing.Locations (told (text_size t)) LOCATIONS_LIMIT))

-- ---- of the program

abbrev pub sites_excess : List Method → Option Excess
sites_excess ms = past_limit Thing.Sites (told (sum_by site_count ms)) SITES_LIMIT

-- the facts of a block that writes
abbrev pub facts_excess : Header → Action → Option Excess
facts_excess h (Action.Block b) =
    if length b.writes == 0 then None else past_limit Thing.EffectFacts (effect_fact_count h (name_count b)) EFFECT_FACTS_LIMIT
facts_excess h (Action.Copy to from next) = None
facts_excess h (Action.New to next) = None
facts_excess h (Action.Return answer) = None

abbrev pub method_facts_excess : Header → Method → Option Excess
method_facts_excess h m = first_given (λ l. facts_excess h l.action) m.locations

abbrev pub program_excess : Header → List Method → Option Excess
program_excess h ms = option_or (sites_excess ms) (first_given (method_facts_excess h) ms)

-- what a text has too much of
abbrev pub first_excess : Text → Option Excess
first_excess t = option_or (text_excess t) (program_excess (header_of t) (methods_of t))
