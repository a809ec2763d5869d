-- Where no name is declared twice, the names that the rules look up are those of the text, in its order.
use Rattle.std.proofs.Common.{◌≡◌, ℕ, List, [], map, ◌∙◌, ap}
use Rattle.std.specs.Prelude.{is_some}
use Rattle.plank_ast.specs.declared.texts.Text.{Text}
use Rattle.plank_rules.specs.declared.names.Declared.{Declared}
use Rattle.plank_rules.specs.Declarations.{distinct, flag_names, pointer_names}
use Rattle.plank_rules.specs.Occurrences.{Occurrence, labels_of, repeats}
use Rattle.plank_rules.specs.Headers.{flag_occurrence, pointer_occurrence, start_occurrence}
use Rattle.plank_rules.specs.BrokenRules.{declared_by, broken_rules}
use Rattle.plank_rules.proofs.DistinctNames.{labels-map}
use Rattle.plank_type.specs.Numbers.{names_of}
use Rattle.plank_type.proofs.Rules.{of_fields, of_starts}
use Rattle.plank_type.proofs.Distinct.{kept, first_once, last_once}

kept_parts : {X : Type 0} (occurs : X → Occurrence) (xs : List X) → repeats (map occurs xs) ≡ [] → distinct (labels_of (map occurs xs)) ≡ map (λ x. (occurs x).label) xs
kept_parts occurs xs h = kept (map occurs xs) h ∙ labels-map occurs xs

pub declared_as_written : (t : Text) → broken_rules t ≡ [] → declared_by t ≡ names_of t
unfolding declared_by
declared_as_written t h =
    let table : List (List ℕ) → List (List ℕ) → List (List ℕ) → Declared =
    λ flags pointers nodes. record { flags = flags; pointers = pointers; nodes = nodes; has_lock = is_some t.lock } in
    let flags = distinct (labels_of (map flag_occurrence t.flags)) in
    let pointers = distinct (labels_of (map pointer_occurrence t.pointers)) in
    let nodes = distinct (labels_of (map start_occurrence t.starts)) in
    ap (λ fs. table fs pointers nodes)
    (kept_parts flag_occurrence t.flags (first_once (map flag_occurrence t.flags) (map pointer_occurrence t.pointers) (of_fields t h)))
    ∙ ap (λ ps. table (flag_names t) ps nodes)
    (kept_parts pointer_occurrence t.pointers (last_once (map flag_occurrence t.flags) (map pointer_occurrence t.pointers) (of_fields t h)))
    ∙ ap (λ ns. table (flag_names t) (pointer_names t) ns) (kept_parts start_occurrence t.starts (of_starts t h))
