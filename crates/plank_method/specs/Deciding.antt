-- What is decided of facts by their numbers, at marks that are kept in words. Whoever decides promises it, and runs use it.
use Rattle.std.specs.Prelude.{◌≡◌, ◌↔◌, ℕ, Bool, true, List, IsTrue}
use Rattle.plank_bits.specs.Words.{has}
use Rattle.plank_prog.specs.declared.headers.Header.{Header}
use Rattle.plank_prog.specs.declared.methods.Method.{Method}
use Rattle.plank_prog.specs.declared.programs.Program.{Program}
use Rattle.plank_fact.specs.declared.facts.Fact.{Fact}
use Rattle.plank_fact.specs.Tables.{IsNumbered}
use Rattle.plank_fact.specs.Outlines.{Outline}
use Rattle.plank_fact.specs.Forced.{outline}

-- a program and the marks that are set in words
abbrev pub outline_of : Program → List ℕ → Outline
outline_of p words = outline p.header p.methods (has words)

-- of the wanted facts just those were found of which this holds
abbrev pub IsExact : Header → Method → (ℕ → Bool) → (ℕ → Bool) → (Fact → Type 0) → Type 0
IsExact h m wanted found Holds = (n : ℕ) (f : Fact) → IsNumbered h m n f → wanted n ≡ true → IsTrue (found n) ↔ Holds f
