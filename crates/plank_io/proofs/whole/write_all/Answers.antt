-- One more piece is the front of the rest of the output.
use Rattle.std.proofs.Common.{◌≡◌, ℕ, ◌+◌, ◌-◌, List, ◌++◌, sym, ap, ◌∙◌, subst, arith, length, take, drop, length-drop, length-take}
use Rattle.std.proofs.Math.Seq.{take-add}
use Rattle.std.proofs.lemmas.List.{take_rest}
use Rattle.std.specs.Io.KnownBytes.{Appends}
use Rattle.std.proofs.KnownBytes.{Appends-trans}
use Rattle.plank_io.proofs.whole.write_all.Goals as goal

-- the front of the output, and then the front of its rest
fronts-join : (output : List ℕ) (taken count : ℕ)
    → take taken output ++ take count (take (length output - taken) (drop taken output)) ≡ take (taken + count) output
fronts-join output taken count =
    ap (λ l. take taken output ++ take count l) (take_rest output taken) ∙ sym (take-add taken count output)

pub loop-taken-preserved : goal.loop-taken-preserved
loop-taken-preserved g c =
    let output = c.args.output.now in
    let taken = c.loop-taken.taken in
    let count = c.in-Bytes.count in
    let write = c.in-Bytes.ensures.write in
    record {
      within = omega (arith, length-take (length output - taken) (drop taken output), length-drop taken output, write.1);
      appended = subst (Appends _ _) (fronts-join output taken count) (Appends-trans _ _ _ _ _ c.loop-taken.invariant.appended write.2);
      never_falls = omega (arith, c.in-Bytes.ensures.never_falls);
    }
