use Rattle.std.proofs.Common.{◌≡◌, ◌++◌, map, drop}
use Rattle.plank_type.specs.Headers.{keep_of}
use Rattle.plank_type.proofs.headers.keeps_of.Given as goal

-- the keeps so far and those of the lines that are left are all keeps
abbrev pub invariant-loop-line : goal.invariant-loop-line
invariant-loop-line l =
    l.keeps.items ++ map (keep_of l.names) (drop l.line-index l.lines) ≡ map (keep_of l.names) l.lines
