-- What every header keeps: its limits, its names, its start nodes and its conditions.
use Rattle.std.specs.Prelude.{ℕ, Bool, true, false, not, ◌&&◌, ◌==◌, ◌^◌, nat_lt, nat_le, length, Option}
use Rattle.std.specs.Option.{option_map_or}
use Rattle.std.specs.List.{list_all}
use Rattle.plank_base.specs.Keys.{is_ordinary}
use Rattle.plank_base.specs.declared.limits.TheConstants.{FLAGS_LIMIT, POINTERS_LIMIT, NODES_LIMIT}
use Rattle.plank_prog.specs.declared.conditions.Condition.{Condition}
use Rattle.plank_prog.specs.declared.headers.StartNode.{StartNode}
use Rattle.plank_prog.specs.declared.headers.Header.{Header}
use Rattle.plank_prog.specs.declared.scopes.Scope.{Scope}
use Rattle.plank_prog.specs.Names.{all_pairs, names_differ}
use Rattle.plank_prog.specs.Scopes.{condition_fits}

abbrev pub is_header_within_limits : Header → Bool
is_header_within_limits h =
    nat_le (length h.flags) FLAGS_LIMIT && nat_le (length h.pointers) POINTERS_LIMIT && nat_le (length h.nodes) NODES_LIMIT

-- fields share one space of names; start nodes and keeps have one each
abbrev pub have_distinct_fields : Header → Bool
have_distinct_fields h =
    all_pairs names_differ h.flags && all_pairs (λ p q. names_differ p.name q.name) h.pointers
    && list_all (λ flag. list_all (λ p. names_differ flag p.name) h.pointers) h.flags

abbrev pub have_distinct_names : Header → Bool
have_distinct_names h =
    have_distinct_fields h && all_pairs (λ n m. names_differ n.name m.name) h.nodes
    && all_pairs (λ k l. names_differ k.name l.name) h.keeps

-- a pointer is null or leads to a start node
abbrev pub leads_within : ℕ → Option ℕ → Bool
leads_within count to = option_map_or (λ n. nat_lt n count) to true

-- a start node's key is MIN or MAX, and it has the declared fields and no others
abbrev pub is_lawful_start_node : Header → StartNode → Bool
is_lawful_start_node h n =
    not (is_ordinary n.key) && nat_lt n.flags (2 ^ length h.flags) && (length n.pointers == length h.pointers)
    && list_all (leads_within (length h.nodes)) n.pointers

abbrev pub have_lawful_nodes : Header → Bool
have_lawful_nodes h = nat_lt h.root (length h.nodes) && list_all (is_lawful_start_node h) h.nodes

-- what conditions on edges and on ends of walks may ask for
abbrev pub walk_scope : Header → Scope
walk_scope h = record { flags = length h.flags; pointers = 0; walked = true; visited = false }

-- what the condition of frozen nodes may ask for
abbrev pub freeze_scope : Header → Scope
freeze_scope h = record { flags = length h.flags; pointers = 0; walked = false; visited = false }

-- what a keep may ask for
abbrev pub keep_scope : Header → Scope
keep_scope h = record { flags = length h.flags; pointers = length h.pointers; walked = true; visited = true }

-- a condition that is given fits
abbrev pub optional_fits : Scope → Option Condition → Bool
optional_fits s c = option_map_or (condition_fits s) c true

abbrev pub have_lawful_conditions : Header → Bool
have_lawful_conditions h =
    list_all (λ p. optional_fits (walk_scope h) p.edge) h.pointers && condition_fits (walk_scope h) h.holds
    && list_all (λ k. condition_fits (keep_scope h) k.condition) h.keeps && optional_fits (freeze_scope h) h.freeze

abbrev pub is_lawful_header : Header → Bool
is_lawful_header h =
    is_header_within_limits h && have_distinct_names h && have_lawful_nodes h && have_lawful_conditions h
