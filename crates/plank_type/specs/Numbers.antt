-- The names of a header, each of which goes by its place among those of its kind.
use Rattle.std.specs.Prelude.{◌≤◌, length, is_some}
use Rattle.plank_base.specs.declared.limits.TheConstants.{FLAGS_LIMIT, POINTERS_LIMIT, NODES_LIMIT}
use Rattle.plank_ast.specs.declared.texts.Text.{Text}
use Rattle.plank_rules.specs.Declarations.{flag_names, pointer_names, start_names}
use Rattle.plank_rules.specs.declared.names.Declared.{Declared}

-- the names that a header declares
abbrev pub names_of : Text → Declared
names_of t = record {
  flags = flag_names t;
  pointers = pointer_names t;
  nodes = start_names t;
  has_lock = is_some t.lock;
}

-- a header with few enough names
pub record HasFewNames (names : Declared) : Type 0 where
  pub flags : length names.flags ≤ FLAGS_LIMIT
  pub pointers : length names.pointers ≤ POINTERS_LIMIT
  pub nodes : length names.nodes ≤ NODES_LIMIT
