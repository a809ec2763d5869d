use Rattle.std.proofs.Common.{◌≡◌, ℕ, Bool, map, drop}
use Rattle.plank_prog.specs.Conditions.{value, all_true, some_true}
use Rattle.plank_walk.specs.Settles.{Agrees}
use Rattle.plank_walk.specs.Seen.{seen_view}
use Rattle.plank_walk.proofs.conditions.+condition.Given as goal

-- what is left decides as the whole does
abbrev pub invariant-all_hold-loop-part : goal.invariant-all_hold-loop-part
invariant-all_hold-loop-part g l = (full : ℕ → Bool) → Agrees (g.S.Reader.known l.source) full →
    all_true (map (value (seen_view (g.S.Reader.picture l.source full) l.seen)) (drop l.part-index l.parts))
    ≡ all_true (map (value (seen_view (g.S.Reader.picture l.source full) l.seen)) l.parts)

abbrev pub invariant-one_holds-loop-part : goal.invariant-one_holds-loop-part
invariant-one_holds-loop-part g l = (full : ℕ → Bool) → Agrees (g.S.Reader.known l.source) full →
    some_true (map (value (seen_view (g.S.Reader.picture l.source full) l.seen)) (drop l.part-index l.parts))
    ≡ some_true (map (value (seen_view (g.S.Reader.picture l.source full) l.seen)) l.parts)
