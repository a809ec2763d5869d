-- Seats that a crew joins, at desks that its workers have left.
use Rattle.std.proofs.Common.{◌≡◌, ℕ, ◌+◌, ◌<◌, List, [], ◌++◌, All, length, take, drop, sym, ap, subst, arith, ◌∙◌}
use Rattle.std.proofs.lemmas.List.{drop_all}
use Rattle.std.proofs.lemmas.List.Elements.{All-nil, All-same, All-append, All-take}
use Rattle.plank_board.specs.declared.views.View.{View}
use Rattle.plank_board.specs.Events.{joined}

pub parts_joined : (u v w : View) → u ≡ joined v w → w.parts ≡ 1 → u.parts ≡ v.parts + 1
parts_joined u v w is one = ap (λ (x : View). x.parts) is ∙ ap (λ n. v.parts + n) one

-- two that left after their last raises did so together
pub left_joined : (u v w : View) → u ≡ joined v w → v.raised < v.left → w.raised < w.left → u.raised < u.left
left_joined u v w is one other =
    subst (λ (x : View). x.raised < x.left) (sym is) (omega (arith, one, other))

-- the first elements of a vector, all of whose elements were written
pub written_front : {X : Type 0} (P : X → Type 0) (n m : ℕ) (written before : List X) → length written ≡ length before → All P written → All P (take n (take m (written ++ drop (length written) before)))
written_front P n m written before size all =
    let none : drop (length written) before ≡ [] = drop_all (length written) before (omega (arith, size)) in
    All-take P n _ (All-take P m _ (All-append P written _ all (All-same P (drop (length written) before) [] none (All-nil P))))
