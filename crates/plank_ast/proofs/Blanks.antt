-- One more level of indentation.
use Rattle.std.proofs.Common.{◌≡◌, ℕ, zero, suc, ◌+◌, [], ◌∷◌, ◌++◌, refl, ap, add-one}
use Rattle.plank_ast.specs.Layout.{blanks}

-- the blanks of one more level, added at the end
blanks-last : (levels : ℕ) → blanks levels ++ 32 ∷ 32 ∷ [] ≡ blanks (suc levels)
blanks-last zero = refl
blanks-last (suc levels) = ap (λ rest. 32 ∷ 32 ∷ rest) (blanks-last levels)

pub blanks_more : (levels : ℕ) → blanks levels ++ 32 ∷ 32 ∷ [] ≡ blanks (levels + 1)
blanks_more levels = rw add-one (blanks-last levels)
