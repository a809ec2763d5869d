-- Names where they occur, and the rules on names that occur again.
use Rattle.std.specs.Prelude.{ℕ, ◌&&◌, not, List, [], ◌∷◌, ◌++◌, map}
use Rattle.std.specs.List.{flat_map}
use Rattle.plank_base.specs.declared.places.Place.{Place}
use Rattle.plank_lex.specs.declared.words.Reserved.TheVariants as word
use Rattle.plank_lex.specs.Spelling.{word_of}
use Rattle.plank_ast.specs.declared.names.Name.{Name}
use Rattle.plank_ast.specs.declared.names.Reference.{Reference}
use Rattle.plank_rules.specs.declared.broken.Broken.{Broken}
use Rattle.plank_rules.specs.Declarations.{same_name, is_among, with_name}
use Rattle.plank_rules.specs.Faults.{when, twice, wrong_kind, bind_reused}

-- the bytes of a name, and where it stands; `root` is named by its word
pub record Occurrence : Type 0 where
  pub label : List ℕ
  pub place : Place

abbrev pub occurrence : Name → Occurrence
occurrence name = record { label = name.label; place = name.place }

abbrev pub reference_occurrence : Reference → Occurrence
reference_occurrence (Reference.Root place) = record { label = word_of word.Root; place = place }
reference_occurrence (Reference.Name name) = occurrence name

abbrev pub reference_place : Reference → Place
reference_place reference = (reference_occurrence reference).place

abbrev pub labels_of : List Occurrence → List (List ℕ)
labels_of occurrences = map (λ o. o.label) occurrences

-- ---- Twice

-- each name that is among these or stands earlier in the list
abbrev pub repeats_after : List (List ℕ) → List Occurrence → List Broken
repeats_after names [] = []
repeats_after names (o ∷ os) = when (is_among names o.label) (twice o.place) ++ repeats_after (with_name names o.label) os

-- each name that stands earlier in the list
abbrev pub repeats : List Occurrence → List Broken
repeats occurrences = repeats_after [] occurrences

-- ---- BindReused

-- each bound variable that is among these names or stands earlier in the list
abbrev pub reuses_after : List (List ℕ) → List (List ℕ) → List Occurrence → List Broken
reuses_after bound names [] = []
reuses_after bound names (o ∷ os) =
    when (is_among bound o.label && is_among names o.label) (bind_reused o.place)
    ++ reuses_after bound (with_name names o.label) os

-- each bound variable that stands earlier in the list
abbrev pub reuses : List (List ℕ) → List Occurrence → List Broken
reuses bound occurrences = reuses_after bound [] occurrences

-- ---- WrongKind

-- each name of the list that is not this one
abbrev pub others_than : List ℕ → List Occurrence → List Broken
others_than label occurrences = flat_map (λ o. when (not (same_name label o.label)) (wrong_kind o.place)) occurrences

-- each name of the list that is not the first
abbrev pub others_than_first : List Occurrence → List Broken
others_than_first [] = []
others_than_first (o ∷ os) = others_than o.label os
