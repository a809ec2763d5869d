-- The report on a program: two lines of its head, the lines of each effect in the order of the text, and the verdict.
use Rattle.std.specs.Prelude.{ℕ, ◌+◌, List, [], ◌∷◌, ◌++◌, codes, length, slice_get}
use Rattle.std.specs.List.{flat_map}
use Rattle.std.specs.Option.{option_map_or}
use Rattle.std.specs.Fmt.{decimal}
use Rattle.plank_prog.specs.declared.headers.Header.{Header}
use Rattle.plank_prog.specs.declared.methods.Location.{Location}
use Rattle.plank_prog.specs.declared.methods.Method.{Method}
use Rattle.plank_prog.specs.declared.programs.Program.{Program}
use Rattle.plank_fact.specs.declared.facts.Fact.{Fact}
use Rattle.plank_judge.specs.declared.verdicts.Verdict.{Verdict}
use Rattle.plank_judge.specs.declared.effects.Effect.{Effect}
use Rattle.plank_report.specs.Pieces.{line, place_text}
use Rattle.plank_report.specs.Steps.{action_lines}
use Rattle.plank_report.specs.Facts.{fact_line}
use Rattle.plank_report.specs.Verdicts.{verdict_text}

-- ---- effects

-- the i-th effect: its method and the place where its statement begins
abbrev pub site_line : ℕ → Method → Location → List ℕ
site_line i m l = line (codes "effect " ++ decimal i ++ codes " " ++ m.name ++ codes " " ++ place_text l.place)

-- and then the lines of its statement and of its facts
abbrev pub site_lines : Header → ℕ → Method → Location → List Fact → List ℕ
site_lines h i m l facts = site_line i m l ++ action_lines h m l.action ++ flat_map (fact_line h m) facts

-- in a method; no lines where the method has no such location
abbrev pub method_effect_lines : Header → ℕ → Effect → Method → List ℕ
method_effect_lines h i e m = option_map_or (λ l. site_lines h i m l e.facts) (slice_get m.locations e.location) []

-- no lines where the program has no such method
abbrev pub effect_lines : Program → ℕ → Effect → List ℕ
effect_lines p i e = option_map_or (method_effect_lines p.header i e) (slice_get p.methods e.method) []

-- these effects, numbered from the i-th on
abbrev pub effects_from : Program → ℕ → List Effect → List ℕ
effects_from p i [] = []
effects_from p i (e ∷ es) = effect_lines p i e ++ effects_from p (i + 1) es

-- ---- reports

-- the name of the structure, and how many effects it has
abbrev pub head_lines : List ℕ → ℕ → List ℕ
head_lines structure effects = line (codes "structure " ++ structure) ++ line (codes "effects " ++ decimal effects)

-- the report without the verdict
abbrev pub effects_text : Program → List Effect → List ℕ
effects_text p es = head_lines p.name (length es) ++ effects_from p 1 es

abbrev pub report_text : Program → List Effect → Verdict → List ℕ
report_text p es verdict = effects_text p es ++ line (verdict_text p.methods verdict)
