use Rattle.std.proofs.Common.{◌≡◌, ℕ, Bool, drop}
use Rattle.std.specs.List.{list_all}
use Rattle.plank_prog.specs.declared.headers.Keep.{Keep}
use Rattle.plank_prog.specs.Conditions.{value}
use Rattle.plank_walk.specs.Settles.{Agrees}
use Rattle.plank_walk.specs.Seen.{seen_view}
use Rattle.plank_walk.proofs.heaps.keeps_hold.Given as goal

-- what is left decides as the whole does
abbrev pub invariant-loop-keep : goal.invariant-loop-keep
invariant-loop-keep g l = (full : ℕ → Bool) → Agrees (g.S.Reader.known l.source) full →
    list_all (λ (q : Keep). value (seen_view (g.S.Reader.picture l.source full) l.seen) q.condition) (drop l.keep-index l.keep-items)
    ≡ list_all (λ (q : Keep). value (seen_view (g.S.Reader.picture l.source full) l.seen) q.condition) (g.S.Reader.frame l.source).header.keeps
