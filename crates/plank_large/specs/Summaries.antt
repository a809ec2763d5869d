-- The summary of a judged large text.
use Rattle.std.specs.Prelude.{ℕ, List, ◌++◌, codes, length, sum_by}
use Rattle.std.specs.Fmt.{decimal}
use Rattle.plank_prog.specs.declared.programs.Program.{Program}
use Rattle.plank_prog.specs.Methods.{location_count}
use Rattle.plank_judge.specs.declared.verdicts.Verdict.{Verdict}
use Rattle.plank_judge.specs.declared.effects.Effect.{Effect}
use Rattle.plank_report.specs.Pieces.{line}
use Rattle.plank_report.specs.Verdicts.{verdict_text}

-- how many methods, locations and effects there are
abbrev pub counts_text : Program → List Effect → List ℕ
counts_text p es =
    codes "methods " ++ decimal (length p.methods) ++ codes " locations " ++ decimal (sum_by location_count p.methods)
    ++ codes " effects " ++ decimal (length es)

-- the number that was asked for, the counts, and the last line of the report
abbrev pub summary_text : ℕ → Program → List Effect → Verdict → List ℕ
summary_text methods p es verdict =
    line (codes "large " ++ decimal methods) ++ line (counts_text p es) ++ line (verdict_text p.methods verdict)
