-- The names that a text has for what a program numbers. What is not there has the empty name.
use Rattle.std.specs.Prelude.{ℕ, List, [], codes, slice_get, unwrap_or}
use Rattle.std.specs.Option.{option_map_or}
use Rattle.plank_prog.specs.declared.headers.Header.{Header}
use Rattle.plank_prog.specs.declared.blocks.Reference.{Reference}
use Rattle.plank_prog.specs.declared.methods.Method.{Method}

-- the root, or a variable of the method
abbrev pub node_name : Method → Reference → List ℕ
node_name m Reference.Root = codes "root"
node_name m (Reference.Variable v) = unwrap_or (slice_get m.variables v) []

abbrev pub flag_name : Header → ℕ → List ℕ
flag_name h f = unwrap_or (slice_get h.flags f) []

abbrev pub pointer_name : Header → ℕ → List ℕ
pointer_name h p = option_map_or (λ pointer. pointer.name) (slice_get h.pointers p) []
