-- The bytes copied are the front of those left, and the others stay.
use Rattle.std.proofs.Common.{◌≡◌, ◌≢◌, ℕ, ◌+◌, ◌-◌, List, ◌++◌, min, sym, ap, ◌∙◌, subst, arith, eqb, length, take, drop, length-append, length-take, take-append-drop}
use Rattle.std.proofs.Math.Seq.{take-append_seam}
use Rattle.std.proofs.lemmas.Bool.{eqb-false}
use Rattle.std.proofs.lemmas.List.{take_rest, drop-drop}
use Rattle.plank_io.specs.MemSourceState.{MemSourceState}
use Rattle.plank_io.proofs.mem_source.MemSourceSource.read.Goals as goal

-- what was copied to the front of a slice, and then what is left, make what was left before
copied-front : (bytes front behind : List ℕ) (at count : ℕ) → length front ≡ count
    → front ≡ take count (drop at bytes)
    → drop at bytes ≡ take count (front ++ behind) ++ drop (at + count) bytes
copied-front bytes front behind at count long copied =
    let left = drop at bytes in
    let seam : take count (front ++ behind) ≡ front =
    subst (λ k. take k (front ++ behind) ≡ front) long (take-append_seam front behind)
    in
    sym (take-append-drop count left) ∙ ap (λ l. l ++ drop count left) (sym (seam ∙ copied)) ∙ ap (λ l. take count (front ++ behind) ++ l) (drop-drop count at bytes)

pub returns-clause-read : goal.returns-clause-read
returns-clause-read c =
    let into = c.args.into.now in
    let count = c.min-count.result in
    let front = c.copy_from_slice.new.self in
    let bytes = c.self.inside.bytes.items in
    let at = c.self.inside.at in
    let left = drop at bytes in
    let rest : take (length c.deref.result.now - at) (drop at c.deref.result.now) ≡ left =
    rw c.deref.ensures.value (take_rest bytes at)
    in
    let copied : front ≡ take count left = c.copy_from_slice.ensures.after ∙ ap (take count) rest in
    let fitting : count ≡ min c.min.result (length left) =
    c.min-count.ensures ∙ ap (λ l. min c.min.result (length l)) rest
    in
    let some : length left ≢ 0 =
    eqb-false (length left) 0 (ap (λ l. eqb (length l) 0) (sym rest) ∙ sym c.if-is_empty.ensures)
    in
    let long : length front ≡ count = omega (arith, length-take count into, c.copy_from_slice.ensures.len) in
    let before : c.args.self.now.left ≡ left = ap (λ (v : MemSourceState). v.left) (sym c.self.view_is) in
    (omega (arith, c.requires, c.self.invariant), omega (arith, length-append front (drop count into)), before ∙ copied-front bytes front (drop count into) at count long copied)
