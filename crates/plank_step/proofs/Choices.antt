-- A choice between one value and itself.
use Rattle.std.proofs.Common.{◌≡◌, Bool, true, false, refl}
use Rattle.std.specs.Prelude.{if◌then◌else◌}

pub same_choice : {A : Type 0} (b : Bool) (x : A) → (if b then x else x) ≡ x
same_choice true x = refl
same_choice false x = refl
