use Rattle.std.proofs.Common.{◌≡◌, ◌++◌, map, drop}
use Rattle.plank_type.specs.Headers.{start_pointer}
use Rattle.plank_type.proofs.start_nodes.start_pointers.Given as goal

-- the pointers so far and those of the lines that are left are all pointers
abbrev pub invariant-loop-line : goal.invariant-loop-line
invariant-loop-line l =
    l.pointers.items ++ map (λ line. start_pointer l.names.nodes l.items line.name.label) (drop l.line-index l.lines)
    ≡ map (λ line. start_pointer l.names.nodes l.items line.name.label) l.lines
