-- What is said of the location of given numbers, at marks that are kept in words.
use Rattle.std.specs.Prelude.{◌≡◌, ℕ, List}
use Rattle.plank_prog.specs.declared.programs.Program.{Program}
use Rattle.plank_fact.specs.Outlines.{Outline, Point}
use Rattle.plank_marks.specs.declared.marking.At.{At}
use Rattle.plank_judge.specs.Verdicts.{outline_of}

abbrev pub AtPoint : Program → List ℕ → At → ((O : Outline) → Point O.methods → Type 0) → Type 0
AtPoint p words at Holds = (x : Point p.methods) → x.m ≡ at.method → x.l ≡ at.location → Holds (outline_of p words) x
