-- What names mean in a method, by the rules of typing and by the numbers of its variables.
use Rattle.std.proofs.Common.{◌≡◌, ℕ, Bool, true, false, ◌||◌, List, [], Option, None, Some, refl, sym, ◌∙◌, ap, if◌then◌else◌}
use Rattle.std.specs.Prelude.{is_some}
use Rattle.std.specs.Option.{option_map_or}
use Rattle.std.proofs.lemmas.Bool.{false≢true}
use Rattle.plank_base.specs.declared.places.Place.{Place}
use Rattle.plank_ast.specs.declared.names.Field.{Field}
use Rattle.plank_ast.specs.declared.names.Reference.{Reference as ReferenceTree}
use Rattle.plank_ast.specs.declared.conditions.Operand.{Operand}
use Rattle.plank_ast.specs.declared.methods.Method.{Method}
use Rattle.plank_prog.specs.declared.blocks.Reference.{Reference}
use Rattle.plank_prog.specs.declared.blocks.KeyOperand.{KeyOperand}
use Rattle.plank_prog.specs.declared.blocks.PointerOperand.{PointerOperand}
use Rattle.plank_rules.specs.declared.scopes.Setting.{Setting}
use Rattle.plank_rules.specs.declared.scopes.Scope.{Scope}
use Rattle.plank_rules.specs.declared.names.Declared.{Declared}
use Rattle.plank_rules.specs.declared.meanings.NodeMeaning.{NodeMeaning}
use Rattle.plank_rules.specs.declared.meanings.FieldMeaning.{FieldMeaning}
use Rattle.plank_rules.specs.declared.meanings.Meaning.{Meaning as Kind}
use Rattle.plank_rules.specs.Declarations.{same_name, is_among, number_of, variables_of}
use Rattle.plank_rules.specs.Occurrences.{labels_of, reference_place}
use Rattle.plank_rules.specs.Meanings.{is_header, is_freeze, is_keep, reference_meaning, label_meaning, field_meaning, alone, misread, dotted, operand_meaning, no_node}
use Rattle.plank_rules.specs.Atoms.{is_sound}
use Rattle.plank_rules.specs.StatementRules.{node_rules}
use Rattle.plank_rules.specs.MethodRules.{variable_occurrences, method_scope}
use Rattle.plank_rules.proofs.DistinctNames.{among-distinct}
use Rattle.plank_type.specs.declared.operands.Meaning.{Meaning}
use Rattle.plank_type.specs.Operands.{reference_of, field_meaning as numbered_meaning, alone_meaning, meaning_of}
use Rattle.plank_type.specs.Told.{node_is_told, locals_of, alone_is_told, operand_is_told}
use Rattle.plank_type.proofs.Tests.{or_left, or_right}
use Rattle.plank_type.proofs.NamesOnce.{numbered_among, not_numbered}
use Rattle.plank_type.proofs.KnownNames.{same_labels}
use Rattle.plank_type.proofs.KnownKinds.{kind_of_field, either_is, dotted_field, numbered_field}

-- what an operand stands for, as the rules say it
abbrev pub kind_of : Meaning → Kind
kind_of (Meaning.Flag f) = Kind.Flag
kind_of (Meaning.Key k) = Kind.Key
kind_of (Meaning.Pointer PointerOperand.Null) = Kind.Null
kind_of (Meaning.Pointer (PointerOperand.Node q)) = Kind.Node
kind_of (Meaning.Pointer (PointerOperand.Field q i)) = Kind.Pointer
kind_of Meaning.Nothing = Kind.Unknown

abbrev pub is_node : NodeMeaning → Bool
is_node NodeMeaning.Unknown = false
is_node NodeMeaning.Key = false
is_node NodeMeaning.Node = true
is_node NodeMeaning.Root = true

node_by_rule : (node : NodeMeaning) (p : Place) → no_node node p ≡ [] → is_node node ≡ true
node_by_rule NodeMeaning.Unknown p h = absurd (cc)
node_by_rule NodeMeaning.Key p h = absurd (cc)
node_by_rule NodeMeaning.Node p h = refl
node_by_rule NodeMeaning.Root p h = refl

no_field_of_key : (field : FieldMeaning) → is_sound (misread field) ≡ false
no_field_of_key FieldMeaning.Unknown = refl
no_field_of_key FieldMeaning.Key = refl
no_field_of_key FieldMeaning.Flag = refl
no_field_of_key FieldMeaning.Pointer = refl

-- what has a field is a node
pub node_by_field : (setting : Setting) (node : NodeMeaning) (field : FieldMeaning) → is_sound (dotted setting node field) ≡ true → is_node node ≡ true
node_by_field setting NodeMeaning.Unknown field sound = absurd (false≢true sound)
node_by_field setting NodeMeaning.Key field sound = absurd (false≢true (sym (no_field_of_key field) ∙ sound))
node_by_field setting NodeMeaning.Node field sound = refl
node_by_field setting NodeMeaning.Root field sound = refl

-- a name that is among names has a number
pub has_number : (a : List ℕ) (names : List (List ℕ)) → is_among names a ≡ true → is_some (number_of a names) ≡ true
has_number a names h = by_number (number_of a names) refl
  where
    by_number : (o : Option ℕ) → number_of a names ≡ o → is_some o ≡ true
    by_number None e = absurd (false≢true (sym (not_numbered a names e) ∙ h))
    by_number (Some i) e = refl

module _ (m : Method) where
  abbrev scope : Scope
  scope = method_scope m

  abbrev vs : List (List ℕ)
  vs = variables_of m

  pub nodes_are : (a : List ℕ) → is_among scope.nodes a ≡ is_among vs a
  unfolding method_scope
  nodes_are a = among-distinct (labels_of (variable_occurrences m)) a ∙ ap (λ ls. is_among ls a) (same_labels m)

  keys_are : (a : List ℕ) → is_among scope.keys a ≡ (same_name a m.argument.label || false)
  unfolding method_scope
  keys_are a = refl

  pub in_method : is_header scope.setting ≡ false
  unfolding method_scope
  in_method = refl

  pub in_no_keep : is_keep scope.setting ≡ false
  unfolding method_scope
  in_no_keep = refl

  -- ---- nodes

  named_node : (known other : Bool) → is_node (if known then NodeMeaning.Node else if other then NodeMeaning.Key else NodeMeaning.Unknown) ≡ true → known ≡ true
  named_node true other h = refl
  named_node false true h = h
  named_node false false h = h

  pub node_told : (q : ReferenceTree) → is_node (reference_meaning scope q) ≡ true → node_is_told vs q ≡ true
  node_told (ReferenceTree.Root p) h = refl
  node_told (ReferenceTree.Name n) h =
      has_number n.label vs (sym (nodes_are n.label) ∙ named_node (is_among scope.nodes n.label) (is_among scope.keys n.label) h)

  -- a node that breaks no rule is declared
  pub node_known : (q : ReferenceTree) → node_rules scope q ≡ [] → node_is_told vs q ≡ true
  node_known q h = node_told q (node_by_rule (reference_meaning scope q) (reference_place q) h)

  -- ---- names alone

  name_told : (label : List ℕ) (known other : Bool) → is_among scope.nodes label ≡ known → is_among scope.keys label ≡ other → is_sound (alone scope.setting (if known then NodeMeaning.Node else if other then NodeMeaning.Key else NodeMeaning.Unknown)) ≡ true → (is_some (number_of label vs) || same_name label m.argument.label) ≡ true
  name_told label true other e f sound = or_left (is_some (number_of label vs)) (same_name label m.argument.label) (has_number label vs (sym (nodes_are label) ∙ e))
  name_told label false true e f sound =
      or_right (is_some (number_of label vs)) (same_name label m.argument.label) (without_false (same_name label m.argument.label) (sym (keys_are label) ∙ f))
    where
      without_false : (b : Bool) → (b || false) ≡ true → b ≡ true
      without_false true h = refl
      without_false false h = h
  name_told label false false e f sound = absurd (false≢true sound)

  alone_told : (q : ReferenceTree) → is_sound (alone scope.setting (reference_meaning scope q)) ≡ true → alone_is_told (locals_of m) q ≡ true
  alone_told (ReferenceTree.Root p) sound = refl
  alone_told (ReferenceTree.Name n) sound = name_told n.label (is_among scope.nodes n.label) (is_among scope.keys n.label) refl refl sound

  node_alone : (header : Bool) → header ≡ false → Kind.Node ≡ (if header then Kind.Wrong else Kind.Node)
  node_alone true h = absurd (false≢true (sym h))
  node_alone false h = refl

  name_kind : (label : List ℕ) (o : Option ℕ) → number_of label vs ≡ o → (known other : Bool) → is_among scope.nodes label ≡ known → is_sound (alone scope.setting (if known then NodeMeaning.Node else if other then NodeMeaning.Key else NodeMeaning.Unknown)) ≡ true → kind_of (option_map_or (λ v. Meaning.Pointer (PointerOperand.Node (Reference.Variable v))) o (Meaning.Key KeyOperand.Argument)) ≡ alone scope.setting (if known then NodeMeaning.Node else if other then NodeMeaning.Key else NodeMeaning.Unknown)
  name_kind label (Some v) n true other e sound = node_alone (is_header scope.setting) in_method
  name_kind label (Some v) n false other e sound = absurd (false≢true (sym e ∙ nodes_are label ∙ numbered_among label vs v n))
  name_kind label None n true other e sound = absurd (false≢true (sym (not_numbered label vs n) ∙ sym (nodes_are label) ∙ e))
  name_kind label None n false true e sound = either_is (is_freeze scope.setting) Kind.Key Kind.Wrong Kind.Key (λ s. absurd (false≢true s)) (λ s. refl) sound
  name_kind label None n false false e sound = absurd (false≢true sound)

  alone_kind : (q : ReferenceTree) → is_sound (alone scope.setting (reference_meaning scope q)) ≡ true → kind_of (alone_meaning vs q) ≡ alone scope.setting (reference_meaning scope q)
  alone_kind (ReferenceTree.Root p) sound = node_alone (is_header scope.setting) in_method
  alone_kind (ReferenceTree.Name n) sound = name_kind n.label (number_of n.label vs) refl (is_among scope.nodes n.label) (is_among scope.keys n.label) refl sound

  -- ---- operands

  module _ (names : Declared) where
    pub numbered_kind : (q : Reference) (label : List ℕ) → kind_of (numbered_meaning names q label) ≡ kind_of_field (label_meaning names label)
    numbered_kind q label =
        numbered_field kind_of (λ f. Meaning.Flag (record { node = q; flag = f })) (λ p. Meaning.Pointer (PointerOperand.Field q p)) Meaning.Nothing
        (λ i. refl) (λ i. refl) refl names label

    pub operand_kind : (o : Operand) → is_sound (operand_meaning names scope o) ≡ true → kind_of (meaning_of names vs o) ≡ operand_meaning names scope o
    operand_kind (Operand.Node q None) sound = alone_kind q sound
    operand_kind (Operand.Node q (Some (Field.Key p))) sound = dotted_field scope.setting (reference_meaning scope q) FieldMeaning.Key sound
    operand_kind (Operand.Node q (Some (Field.Name f))) sound =
        numbered_kind (reference_of vs q) f.label ∙ dotted_field scope.setting (reference_meaning scope q) (label_meaning names f.label) sound
    operand_kind (Operand.Min p) sound = refl
    operand_kind (Operand.Max p) sound = refl
    operand_kind (Operand.Null p) sound = refl

    pub operand_told : (o : Operand) → is_sound (operand_meaning names scope o) ≡ true → operand_is_told (locals_of m) o ≡ true
    operand_told (Operand.Node q None) sound = alone_told q sound
    operand_told (Operand.Node q (Some field)) sound = node_told q (node_by_field scope.setting (reference_meaning scope q) (field_meaning names field) sound)
    operand_told (Operand.Min p) sound = refl
    operand_told (Operand.Max p) sound = refl
    operand_told (Operand.Null p) sound = refl
