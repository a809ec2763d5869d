-- What a picture speaks of: a structure, so many names, and which of them is the root's. Each rule on pictures takes it;
-- methods and effects give it (own and joint frames of facts).
use Rattle.std.specs.Prelude.{ℕ, Option}
use Rattle.plank_prog.specs.declared.headers.Header.{Header}

-- the names are the numbers below `names`
pub record Frame : Type 0 where
  pub header : Header
  pub names : ℕ
  pub root : Option ℕ
