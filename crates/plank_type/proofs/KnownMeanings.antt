-- What breaks no rule on unknown names means something.
use Rattle.std.proofs.Common.{◌≡◌, Bool, true, false, not, ◌&&◌, ◌||◌, List, [], ◌++◌, Some, None, refl, sym, if◌then◌else◌}
use Rattle.std.specs.Cmp.{first_so}
use Rattle.std.proofs.lemmas.Bool.{false≢true}
use Rattle.plank_base.specs.declared.places.Place.{Place}
use Rattle.plank_ast.specs.declared.names.Field.{Field}
use Rattle.plank_ast.specs.declared.names.Name.{Name}
use Rattle.plank_ast.specs.declared.conditions.Operand.{Operand}
use Rattle.plank_rules.specs.declared.broken.Broken.{Broken}
use Rattle.plank_rules.specs.declared.scopes.Setting.{Setting}
use Rattle.plank_rules.specs.declared.scopes.Scope.{Scope}
use Rattle.plank_rules.specs.declared.names.Declared.{Declared}
use Rattle.plank_rules.specs.declared.meanings.NodeMeaning.{NodeMeaning}
use Rattle.plank_rules.specs.declared.meanings.FieldMeaning.{FieldMeaning}
use Rattle.plank_rules.specs.declared.meanings.Meaning.{Meaning}
use Rattle.plank_rules.specs.Faults.{when, wrong_kind}
use Rattle.plank_rules.specs.Occurrences.{reference_place}
use Rattle.plank_rules.specs.Meanings.{is_header, is_keep, is_freeze, reads_pointers, name_meaning, reference_meaning, label_meaning, alone, read, misread, dotted, operand_meaning, unknown_node, unknown_label, unknown_name, unknown_reference, unknown_field, unknown_operand, misplaced, operand_place}
use Rattle.plank_rules.specs.Atoms.{is_unknown, is_unknown_name, is_key_alone, is_node_name, is_visit, no_visit, in_rules}
use Rattle.plank_type.proofs.Tests.{or_neither, left_none, right_none}

either_known : (test : Bool) (m n : Meaning) → is_unknown m ≡ false → is_unknown n ≡ false → is_unknown (if test then m else n) ≡ false
either_known true m n h k = h
either_known false m n h k = k

read_known : (setting : Setting) (field : FieldMeaning) (p : Place) → unknown_label field p ≡ [] → is_unknown (read setting field) ≡ false
read_known setting FieldMeaning.Unknown p h = absurd (cc)
read_known setting FieldMeaning.Key p h = refl
read_known setting FieldMeaning.Flag p h = refl
read_known setting FieldMeaning.Pointer p h = either_known (reads_pointers setting) Meaning.Pointer Meaning.Wrong refl refl

misread_known : (field : FieldMeaning) (p : Place) → unknown_label field p ≡ [] → is_unknown (misread field) ≡ false
misread_known FieldMeaning.Unknown p h = absurd (cc)
misread_known FieldMeaning.Key p h = refl
misread_known FieldMeaning.Flag p h = refl
misread_known FieldMeaning.Pointer p h = refl

-- a known name with a known field
pub dotted_known : (setting : Setting) (node : NodeMeaning) (field : FieldMeaning) (p q : Place) → unknown_node node p ≡ [] → unknown_label field q ≡ [] → is_unknown (dotted setting node field) ≡ false
dotted_known setting NodeMeaning.Unknown field p q h k = absurd (cc)
dotted_known setting NodeMeaning.Key field p q h k = misread_known field q k
dotted_known setting NodeMeaning.Node field p q h k = read_known setting field q k
dotted_known setting NodeMeaning.Root field p q h k =
    either_known (is_header setting) (misread field) (read setting field) (misread_known field q k) (read_known setting field q k)

alone_known : (setting : Setting) (node : NodeMeaning) (p : Place) → unknown_node node p ≡ [] → is_unknown (alone setting node) ≡ false
alone_known setting NodeMeaning.Unknown p h = absurd (cc)
alone_known setting NodeMeaning.Key p h = either_known (is_freeze setting) Meaning.Wrong Meaning.Key refl refl
alone_known setting NodeMeaning.Node p h = either_known (is_header setting) Meaning.Wrong Meaning.Node refl refl
alone_known setting NodeMeaning.Root p h = either_known (is_header setting) Meaning.Wrong Meaning.Node refl refl

-- an operand whose names are known
pub operand_known : (header : Declared) (scope : Scope) (o : Operand) → unknown_operand header scope o ≡ [] → is_unknown (operand_meaning header scope o) ≡ false
operand_known header scope (Operand.Node node None) h = alone_known scope.setting (reference_meaning scope node) (reference_place node) h
operand_known header scope (Operand.Node node (Some (Field.Name f))) h =
    dotted_known scope.setting (reference_meaning scope node) (label_meaning header f.label) (reference_place node) f.place
    (left_none (unknown_reference scope node) (unknown_field header (Field.Name f)) h)
    (right_none (unknown_reference scope node) (unknown_field header (Field.Name f)) h)
operand_known header scope (Operand.Node node (Some (Field.Key q))) h =
    dotted_known scope.setting (reference_meaning scope node) FieldMeaning.Key (reference_place node) q
    (left_none (unknown_reference scope node) [] h) refl
operand_known header scope (Operand.Min p) h = refl
operand_known header scope (Operand.Max p) h = refl
operand_known header scope (Operand.Null p) h = refl

known_node : (node : NodeMeaning) (p : Place) → unknown_node node p ≡ [] → is_unknown_name node ≡ false
known_node NodeMeaning.Unknown p h = absurd (cc)
known_node NodeMeaning.Key p h = refl
known_node NodeMeaning.Node p h = refl
known_node NodeMeaning.Root p h = refl

-- a name that is known
pub named_known : (scope : Scope) (name : Name) → unknown_name scope name ≡ [] → is_unknown_name (name_meaning scope name.label) ≡ false
named_known scope name h = known_node (name_meaning scope name.label) name.place h

-- ---- visits

pub when_not : (test : Bool) (b : Broken) → when (not test) b ≡ [] → test ≡ true
when_not true b h = refl
when_not false b h = absurd (cc)

visit_unless : (header : Declared) (scope : Scope) (o : Operand) (p : Place) (node : NodeMeaning) (unknown : Bool) → unknown ≡ false → (if unknown then [] else no_visit header scope o p node) ≡ [] → is_keep scope.setting ≡ true
visit_unless header scope o p node true e h = absurd (false≢true (sym e))
visit_unless header scope o p node false e h =
    first_so (is_keep scope.setting) (is_key_alone scope o) (first_so (is_keep scope.setting && is_key_alone scope o) (is_node_name node)
    (when_not (is_visit scope o node) (wrong_kind p) (right_none (misplaced (operand_meaning header scope o) (operand_place o)) (when (not (is_visit scope o node)) (wrong_kind p)) h)))

-- visits stand in keeps alone
pub visits_in_keeps : (header : Declared) (scope : Scope) (o : Operand) (p : Place) (node : Name) → in_rules header scope o p node ≡ [] → is_keep scope.setting ≡ true
visits_in_keeps header scope o p node h =
    let operand = unknown_operand header scope o in
    let name = unknown_name scope node in
    let unknown = is_unknown (operand_meaning header scope o) || is_unknown_name (name_meaning scope node.label) in
    let visit : List Broken = if unknown then [] else no_visit header scope o p (name_meaning scope node.label) in
    let known = left_none (operand ++ name) visit h in
    visit_unless header scope o p (name_meaning scope node.label) unknown
    (or_neither (is_unknown (operand_meaning header scope o)) (is_unknown_name (name_meaning scope node.label))
    (operand_known header scope o (left_none operand name known)) (named_known scope node (right_none operand name known)))
    (right_none (operand ++ name) visit h)
