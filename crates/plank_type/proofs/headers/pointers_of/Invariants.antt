use Rattle.std.proofs.Common.{◌≡◌, ◌++◌, map, drop}
use Rattle.plank_type.specs.Headers.{pointer_of}
use Rattle.plank_type.proofs.headers.pointers_of.Given as goal

-- the pointers so far and those of the lines that are left are all pointers
abbrev pub invariant-loop-line : goal.invariant-loop-line
invariant-loop-line l =
    l.pointers.items ++ map (pointer_of l.names l.edges) (drop l.line-index l.lines) ≡ map (pointer_of l.names l.edges) l.lines
