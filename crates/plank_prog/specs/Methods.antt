-- What the methods of every program keep: their limits, their names, and that each step stays in its method.
use Rattle.std.specs.Prelude.{ℕ, ◌+◌, ◌*◌, ◌-◌, Bool, true, false, not, ◌&&◌, ◌||◌, ◌==◌, nat_lt, nat_le, List, length, sum_by, count_by, is_some, Option, Some, None, if◌then◌else◌}
use Rattle.std.specs.List.{list_all}
use Rattle.plank_base.specs.declared.operations.Op.{Op}
use Rattle.plank_base.specs.declared.limits.TheConstants.{METHODS_LIMIT, VARIABLES_LIMIT, FROZEN_VARIABLES_LIMIT, LOCATIONS_LIMIT, SITES_LIMIT, EFFECT_FACTS_LIMIT}
use Rattle.plank_prog.specs.declared.headers.Header.{Header}
use Rattle.plank_prog.specs.declared.methods.Action.{Action}
use Rattle.plank_prog.specs.declared.methods.Location.{Location}
use Rattle.plank_prog.specs.declared.methods.Method.{Method}
use Rattle.plank_prog.specs.declared.methods.MethodKind.{MethodKind}
use Rattle.plank_prog.specs.Names.{all_pairs, names_differ}
use Rattle.plank_prog.specs.Blocks.{value_fits, is_lawful_block, name_count}

-- the operation of a kind of methods, where it has one
abbrev pub operation : MethodKind → Option Op
operation (MethodKind.Set op) = Some op
operation MethodKind.Upkeep = None

-- how many variables a method may have
abbrev pub variables_limit : Header → ℕ
variables_limit h = if is_some h.freeze then FROZEN_VARIABLES_LIMIT else VARIABLES_LIMIT

-- an action of a method with so many variables and locations
abbrev pub is_lawful_action : Header → ℕ → ℕ → Action → Bool
is_lawful_action h variables locations (Action.Block b) = is_lawful_block h variables locations b
is_lawful_action h variables locations (Action.Copy to from next) =
    nat_lt to variables && value_fits variables from && nat_lt next locations
is_lawful_action h variables locations (Action.New to next) = nat_lt to variables && nat_lt next locations
is_lawful_action h variables locations (Action.Return answer) = true

-- whether a location writes
abbrev pub is_site : Action → Bool
is_site (Action.Block b) = not (length b.writes == 0)
is_site (Action.Copy to from next) = false
is_site (Action.New to next) = false
is_site (Action.Return answer) = false

-- how many facts an effect with so many names may claim: of pairs of names, of single names, and of the set
abbrev pub effect_fact_count : Header → ℕ → ℕ
effect_fact_count h names =
    let pairs = names * (names - 1) in
    let has_chains = (length h.pointers == 1) && is_some h.freeze in
    (3 + (if has_chains then 1 else 0)) * pairs
    + (13 + 2 * length h.flags + length h.pointers * (names + 1) + (if h.has_lock then 1 else 0)) * names + 2

-- the facts of a block that writes are few enough
abbrev pub has_few_facts : Header → Action → Bool
has_few_facts h (Action.Block b) =
    (length b.writes == 0) || nat_le (effect_fact_count h (name_count b)) EFFECT_FACTS_LIMIT
has_few_facts h (Action.Copy to from next) = true
has_few_facts h (Action.New to next) = true
has_few_facts h (Action.Return answer) = true

abbrev pub is_lawful_location : Header → ℕ → ℕ → Location → Bool
is_lawful_location h variables locations l =
    is_lawful_action h variables locations l.action && has_few_facts h l.action

abbrev pub is_lawful_method : Header → Method → Bool
is_lawful_method h m =
    nat_le (length m.variables) (variables_limit h) && list_all (names_differ m.arg) m.variables
    && all_pairs names_differ m.variables && nat_lt 0 (length m.locations)
    && list_all (is_lawful_location h (length m.variables) (length m.locations)) m.locations

abbrev pub location_count : Method → ℕ
location_count m = length m.locations

abbrev pub site_count : Method → ℕ
site_count m = count_by (λ l. is_site l.action) m.locations

abbrev pub are_methods_within_limits : List Method → Bool
are_methods_within_limits ms =
    nat_lt 0 (length ms) && nat_le (length ms) METHODS_LIMIT
    && nat_le (sum_by location_count ms) LOCATIONS_LIMIT && nat_le (sum_by site_count ms) SITES_LIMIT

abbrev pub are_lawful_methods : Header → List Method → Bool
are_lawful_methods h ms =
    are_methods_within_limits ms && all_pairs (λ m n. names_differ m.name n.name) ms && list_all (is_lawful_method h) ms
