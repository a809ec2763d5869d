-- What a condition of a header compares can be compared, where it breaks no rule of typing.
use Rattle.std.proofs.Common.{◌≡◌, Bool, true, false, ◌&&◌, [], ◌++◌, None, Some, refl, sym, ◌∙◌, ap, subst}
use Rattle.std.proofs.lemmas.Bool.{false≢true}
use Rattle.plank_base.specs.declared.places.Place.{Place}
use Rattle.plank_ast.specs.declared.names.Name.{Name}
use Rattle.plank_ast.specs.declared.names.Field.{Field}
use Rattle.plank_ast.specs.declared.conditions.Operand.{Operand}
use Rattle.plank_ast.specs.declared.conditions.Comparison.{Comparison}
use Rattle.plank_ast.specs.declared.conditions.AtomEnd.{AtomEnd}
use Rattle.plank_rules.specs.declared.scopes.Setting.{Setting}
use Rattle.plank_rules.specs.declared.scopes.Scope.{Scope}
use Rattle.plank_rules.specs.declared.names.Declared.{Declared}
use Rattle.plank_rules.specs.declared.meanings.Meaning.{Meaning}
use Rattle.plank_rules.specs.Faults.{when, wrong_kind}
use Rattle.plank_rules.specs.Meanings.{is_header, name_meaning, reference_meaning, label_meaning, field_meaning, dotted, operand_meaning, operand_place, unknown_name, unknown_field_name, unknown_operand, misplaced, no_flag}
use Rattle.plank_rules.specs.Atoms.{is_unknown, is_sound, no_order, no_null, two_fields, compared, operand_rules, alone_rules, atom_end_rules}
use Rattle.plank_rules.specs.Conditions.{negation_rules}
use Rattle.plank_rules.specs.Headers.{header_scope}
use Rattle.plank_type.specs.declared.conditions.Asked.{Asked}
use Rattle.plank_type.specs.Conditions.{asked_field, asked_part, asked_of}
use Rattle.plank_type.specs.Told.{is_flag_asked, asked_together, end_is_told}
use Rattle.plank_type.proofs.Tests.{left_none, right_none}
use Rattle.plank_type.proofs.KnownMeanings.{dotted_known, operand_known}
use Rattle.plank_type.proofs.KnownKinds.{kind_of_field, dotted_field, alone_is_key, numbered_field}

-- what is asked for, as the rules say it
abbrev pub kind_of_asked : Asked → Meaning
kind_of_asked (Asked.Flag f) = Meaning.Flag
kind_of_asked (Asked.Pointer p) = Meaning.Pointer
kind_of_asked Asked.Null = Meaning.Null
kind_of_asked (Asked.Key a) = Meaning.Key
kind_of_asked Asked.Nothing = Meaning.Unknown

-- ---- what no rule finds wrong

pub sound_by : (m : Meaning) (p : Place) → is_unknown m ≡ false → misplaced m p ≡ [] → is_sound m ≡ true
sound_by Meaning.Unknown p h k = sym h
sound_by Meaning.Wrong p h k = absurd (cc)
sound_by Meaning.Key p h k = refl
sound_by Meaning.Flag p h k = refl
sound_by Meaning.Node p h k = refl
sound_by Meaning.Pointer p h k = refl
sound_by Meaning.Null p h k = refl

-- an operand that breaks no rule by itself
pub operand_sound : (header : Declared) (scope : Scope) (o : Operand) → operand_rules header scope o ≡ [] → is_sound (operand_meaning header scope o) ≡ true
operand_sound header scope o h =
    sound_by (operand_meaning header scope o) (operand_place o)
    (operand_known header scope o (left_none (unknown_operand header scope o) (misplaced (operand_meaning header scope o) (operand_place o)) h))
    (right_none (unknown_operand header scope o) (misplaced (operand_meaning header scope o) (operand_place o)) h)

pub flag_by : (m : Meaning) (p : Place) → is_unknown m ≡ false → no_flag m p ≡ [] → m ≡ Meaning.Flag
flag_by Meaning.Unknown p h k = absurd (false≢true (sym h))
flag_by Meaning.Wrong p h k = absurd (cc)
flag_by Meaning.Key p h k = absurd (cc)
flag_by Meaning.Flag p h k = refl
flag_by Meaning.Node p h k = absurd (cc)
flag_by Meaning.Pointer p h k = absurd (cc)
flag_by Meaning.Null p h k = absurd (cc)

-- an operand alone that breaks no rule is a flag
pub alone_flag : (header : Declared) (scope : Scope) (o : Operand) → alone_rules header scope o ≡ [] → operand_meaning header scope o ≡ Meaning.Flag
alone_flag header scope o h =
    flag_by (operand_meaning header scope o) (operand_place o)
    (operand_known header scope o (left_none (unknown_operand header scope o) (no_flag (operand_meaning header scope o) (operand_place o)) h))
    (right_none (unknown_operand header scope o) (no_flag (operand_meaning header scope o) (operand_place o)) h)

-- ---- what two operands break together

flag_asked_for : (a : Asked) → kind_of_asked a ≡ Meaning.Flag → is_flag_asked a ≡ true
flag_asked_for (Asked.Flag f) h = refl
flag_asked_for (Asked.Pointer p) h = absurd (cc)
flag_asked_for Asked.Null h = absurd (cc)
flag_asked_for (Asked.Key a) h = absurd (cc)
flag_asked_for Asked.Nothing h = absurd (cc)

no_two_pointers : {P : Type 0} (header : Bool) (p : Place) → header ≡ true → when (header && true && true) (wrong_kind p) ≡ [] → P
no_two_pointers true p h k = absurd (cc)
no_two_pointers false p h k = absurd (false≢true h)

module _ (setting : Setting) (in_header : is_header setting ≡ true) where
  asked_by_rules : (c : Comparison) (a b : Asked) (p q : Place) → is_sound (kind_of_asked a) ≡ true → is_sound (kind_of_asked b) ≡ true → compared setting c (kind_of_asked a) p (kind_of_asked b) q ≡ [] → asked_together a b ≡ true
  asked_by_rules c (Asked.Flag f) (Asked.Flag g) p q x y h = refl
  asked_by_rules c (Asked.Flag f) (Asked.Pointer i) p q x y h = absurd (cc)
  asked_by_rules c (Asked.Flag f) Asked.Null p q x y h = absurd (cc)
  asked_by_rules c (Asked.Flag f) (Asked.Key b) p q x y h = absurd (cc)
  asked_by_rules c (Asked.Flag f) Asked.Nothing p q x y h = absurd (false≢true y)
  asked_by_rules c (Asked.Pointer i) (Asked.Flag g) p q x y h = absurd (cc)
  asked_by_rules c (Asked.Pointer i) (Asked.Pointer j) p q x y h =
      let unordered = no_order c Meaning.Pointer q in
      let first = no_null setting Meaning.Pointer p Meaning.Pointer in
      let second = no_null setting Meaning.Pointer q Meaning.Pointer in
      let both = two_fields setting Meaning.Pointer Meaning.Pointer q in
      no_two_pointers (is_header setting) p in_header
      (right_none unordered first (left_none (unordered ++ first) second (left_none (unordered ++ first ++ second) both h)))
  asked_by_rules c (Asked.Pointer i) Asked.Null p q x y h = refl
  asked_by_rules c (Asked.Pointer i) (Asked.Key b) p q x y h = absurd (cc)
  asked_by_rules c (Asked.Pointer i) Asked.Nothing p q x y h = absurd (false≢true y)
  asked_by_rules c Asked.Null (Asked.Flag g) p q x y h = absurd (cc)
  asked_by_rules c Asked.Null (Asked.Pointer j) p q x y h = refl
  asked_by_rules c Asked.Null Asked.Null p q x y h = refl
  asked_by_rules c Asked.Null (Asked.Key b) p q x y h = absurd (cc)
  asked_by_rules c Asked.Null Asked.Nothing p q x y h = absurd (false≢true y)
  asked_by_rules c (Asked.Key a) (Asked.Flag g) p q x y h = absurd (cc)
  asked_by_rules c (Asked.Key a) (Asked.Pointer j) p q x y h = absurd (cc)
  asked_by_rules c (Asked.Key a) Asked.Null p q x y h = absurd (cc)
  asked_by_rules c (Asked.Key a) (Asked.Key b) p q x y h = refl
  asked_by_rules c (Asked.Key a) Asked.Nothing p q x y h = absurd (false≢true y)
  asked_by_rules c Asked.Nothing b p q x y h = absurd (false≢true x)

  module _ (names : Declared) where
    abbrev scope : Scope
    scope = header_scope setting

    field_kind : (field : Field) → kind_of_asked (asked_part names (Some field)) ≡ kind_of_field (field_meaning names field)
    field_kind (Field.Key p) = refl
    field_kind (Field.Name f) = numbered_field kind_of_asked Asked.Flag Asked.Pointer Asked.Nothing (λ i. refl) (λ i. refl) refl names f.label

    operand_kind : (o : Operand) → is_sound (operand_meaning names scope o) ≡ true → kind_of_asked (asked_of names o) ≡ operand_meaning names scope o
    operand_kind (Operand.Node node None) sound = alone_is_key setting (reference_meaning scope node) in_header sound
    operand_kind (Operand.Node node (Some field)) sound = field_kind field ∙ dotted_field setting (reference_meaning scope node) (field_meaning names field) sound
    operand_kind (Operand.Min p) sound = refl
    operand_kind (Operand.Max p) sound = refl
    operand_kind (Operand.Null p) sound = refl

    -- what stands in an atom is compared as it can be
    pub end_told : (o : Operand) (end : AtomEnd) → atom_end_rules names scope o end ≡ [] → end_is_told names (asked_of names o) end ≡ true
    end_told o AtomEnd.Nothing h =
        let flag = alone_flag names scope o h in
        flag_asked_for (asked_of names o) (operand_kind o (ap is_sound flag) ∙ flag)
    end_told o (AtomEnd.Compared c p second) h =
        let m = operand_meaning names scope o in
        let n = operand_meaning names scope second in
        let each = operand_rules names scope o ++ operand_rules names scope second in
        let together = compared setting c m (operand_place o) n (operand_place second) in
        let x = operand_sound names scope o (left_none (operand_rules names scope o) (operand_rules names scope second) (left_none each together h)) in
        let y = operand_sound names scope second (right_none (operand_rules names scope o) (operand_rules names scope second) (left_none each together h)) in
        let e = operand_kind o x in
        let f = operand_kind second y in
        asked_by_rules c (asked_of names o) (asked_of names second) (operand_place o) (operand_place second) (ap is_sound e ∙ x) (ap is_sound f ∙ y)
        (subst (λ (k : Meaning). compared setting c k (operand_place o) (kind_of_asked (asked_of names second)) (operand_place second) ≡ []) (sym e)
        (subst (λ (k : Meaning). compared setting c m (operand_place o) k (operand_place second) ≡ []) (sym f) (right_none each together h)))
    end_told o (AtomEnd.In p node) h = refl

    -- `!` stands before a flag
    pub negation_told : (node field : Name) → negation_rules names scope node field ≡ [] → is_flag_asked (asked_field names field) ≡ true
    negation_told node field h =
        let m = dotted setting (name_meaning scope node.label) (label_meaning names field.label) in
        let of_node = unknown_name scope node in
        let of_field = unknown_field_name names field in
        let known = left_none (of_node ++ of_field) (no_flag m node.place) h in
        let flag = flag_by m node.place
        (dotted_known setting (name_meaning scope node.label) (label_meaning names field.label) node.place field.place (left_none of_node of_field known) (right_none of_node of_field known))
        (right_none (of_node ++ of_field) (no_flag m node.place) h) in
        flag_asked_for (asked_field names field)
        (field_kind (Field.Name field) ∙ dotted_field setting (name_meaning scope node.label) (label_meaning names field.label) (ap is_sound flag) ∙ flag)
