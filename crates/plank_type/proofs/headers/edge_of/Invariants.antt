use Rattle.std.proofs.Common.{◌≡◌, drop}
use Rattle.plank_type.specs.Headers.{edge_of}
use Rattle.plank_type.proofs.headers.edge_of.Given as goal

-- the lines so far are of other fields
abbrev pub invariant-loop-line : goal.invariant-loop-line
invariant-loop-line l = edge_of l.names (drop l.line-index l.edges) l.pointer ≡ edge_of l.names l.edges l.pointer
