use Rattle.std.proofs.Common.{◌≡◌, ℕ, Bool, length}
use Rattle.plank_pic.specs.Pictures.{target}
use Rattle.plank_pic.specs.Outcomes.{first_name}
use Rattle.plank_walk.specs.Settles.{Agrees}
use Rattle.plank_walk.proofs.Walking.{IsWalking}
use Rattle.plank_walk.proofs.walks.walk_from.Given as goal

-- as many names are passed as moves are made, and the walk so far is that of the picture
abbrev pub invariant-loop-moved : goal.invariant-loop-moved
invariant-loop-moved g l = record {
  counted : length l.path.items ≡ l.moved;
  walking : (full : ℕ → Bool) → Agrees (g.S.Reader.known l.source) full →
      IsWalking (target (g.S.Reader.frame l.source) (g.S.Reader.picture l.source full) l.key) (g.S.Reader.frame l.source).names
      (first_name (g.S.Reader.frame l.source) (g.S.Reader.picture l.source full) l.name) l.moved l.at l.path.items l.entered;
}
