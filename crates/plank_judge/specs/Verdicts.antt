-- What a verdict says, and how a list of obligations is gone through.
use Rattle.std.specs.Prelude.{◌≡◌, ℕ, ◌<◌, List, slice_get, Some}
use Rattle.plank_base.specs.declared.obligations.Obligation.{Obligation}
use Rattle.plank_bits.specs.Words.{has}
use Rattle.plank_prog.specs.declared.programs.Program.{Program}
use Rattle.plank_fact.specs.Outlines.{Outline}
use Rattle.plank_fact.specs.Forced.{outline}
use Rattle.plank_fact.specs.Obligations.{Fails, AllHold, IsFirstFailing}
use Rattle.plank_judge.specs.declared.verdicts.Verdict.{Verdict}

-- a program and the marks that are set in words
abbrev pub outline_of : Program → List ℕ → Outline
outline_of p words = outline p.header p.methods (has words)

-- why the verdict is given
abbrev pub IsVerdict : Outline → Verdict → Type 0
IsVerdict O Verdict.Accepted = AllHold O
IsVerdict O (Verdict.Rejected o) = IsFirstFailing O o

-- none of the first n of some obligations fails
abbrev pub NoneOf : Outline → List Obligation → ℕ → Type 0
NoneOf O list n = (i : ℕ) (o : Obligation) → i < n → slice_get list i ≡ Some o → Fails O o → ⊥

-- this one fails, and none before it
pub record IsFirstOf (O : Outline) (list : List Obligation) (o : Obligation) : Type 0 where
  pub number : ℕ
  pub there : slice_get list number ≡ Some o
  pub fails : Fails O o
  pub first : NoneOf O list number
