-- What an atom of a header asks for is given where it stands, where it breaks no rule of typing.
use Rattle.std.proofs.Common.{◌≡◌, ℕ, Bool, true, false, [], ◌++◌, length, Option, None, Some, refl, ◌∙◌, subst}
use Rattle.std.specs.Prelude.{nat_lt}
use Rattle.std.specs.Option.{option_map_or}
use Rattle.plank_base.specs.declared.places.Place.{Place}
use Rattle.plank_ast.specs.declared.names.Name.{Name}
use Rattle.plank_ast.specs.declared.names.Field.{Field}
use Rattle.plank_ast.specs.declared.names.Reference.{Reference}
use Rattle.plank_ast.specs.declared.conditions.Comparison.{Comparison}
use Rattle.plank_ast.specs.declared.conditions.Operand.{Operand}
use Rattle.plank_ast.specs.declared.conditions.AtomEnd.{AtomEnd}
use Rattle.plank_prog.specs.declared.scopes.Scope.{Scope}
use Rattle.plank_prog.specs.Scopes.{condition_fits, term_fits}
use Rattle.plank_rules.specs.declared.scopes.Setting.{Setting}
use Rattle.plank_rules.specs.declared.names.Declared.{Declared}
use Rattle.plank_rules.specs.declared.meanings.NodeMeaning.{NodeMeaning}
use Rattle.plank_rules.specs.declared.meanings.FieldMeaning.{FieldMeaning}
use Rattle.plank_rules.specs.Declarations.{is_among, number_of}
use Rattle.plank_rules.specs.Occurrences.{reference_place}
use Rattle.plank_rules.specs.Meanings.{is_keep, reference_meaning, label_meaning, alone, dotted, operand_meaning, operand_place, unknown_node, unknown_label, misplaced}
use Rattle.plank_rules.specs.Atoms.{operand_rules, compared, atom_end_rules}
use Rattle.plank_rules.specs.Headers.{header_scope}
use Rattle.plank_type.specs.declared.conditions.Asked.{Asked}
use Rattle.plank_type.specs.Conditions.{relation_of, is_equality, asked_field, asked_of, condition_compared, condition_alone, condition_ended}
use Rattle.plank_type.proofs.Tests.{and_so, left_none, right_none}
use Rattle.plank_type.proofs.NamesOnce.{number_so, numbered_among, numbered_below, not_numbered}
use Rattle.plank_type.proofs.KnownMeanings.{visits_in_keeps}
use Rattle.plank_type.proofs.PlainConditions.{constant_fits, flag_fits, flags_fit, pointer_fits, keys_fit, visited_fits}

-- what a condition may ask for where it stands
abbrev pub scope_at : Declared → Setting → Scope
scope_at names Setting.Edge = record { flags = length names.flags; pointers = 0; walked = true; visited = false }
scope_at names Setting.Holds = record { flags = length names.flags; pointers = 0; walked = true; visited = false }
scope_at names Setting.Keep = record { flags = length names.flags; pointers = length names.pointers; walked = true; visited = true }
scope_at names Setting.Freeze = record { flags = length names.flags; pointers = 0; walked = false; visited = false }
scope_at names Setting.Method = record { flags = length names.flags; pointers = length names.pointers; walked = true; visited = false }

-- whether a scope gives what is asked
abbrev asked_fits : Scope → Asked → Bool
asked_fits s (Asked.Flag f) = nat_lt f s.flags
asked_fits s (Asked.Pointer p) = nat_lt p s.pointers
asked_fits s Asked.Null = true
asked_fits s (Asked.Key a) = term_fits s a
asked_fits s Asked.Nothing = true

-- the same of flags alone
abbrev flag_asked : Scope → Asked → Bool
flag_asked s (Asked.Flag f) = nat_lt f s.flags
flag_asked s (Asked.Pointer p) = true
flag_asked s Asked.Null = true
flag_asked s (Asked.Key a) = true
flag_asked s Asked.Nothing = true

-- ---- what is asked makes a condition that fits

module _ (s : Scope) where
  pub compared_fits : (a : Asked) (c : Comparison) (b : Asked) → asked_fits s a ≡ true → asked_fits s b ≡ true → condition_fits s (condition_compared a c b) ≡ true
  compared_fits (Asked.Flag f) c (Asked.Flag g) h k = flags_fit s f g (is_equality c) ∙ and_so (nat_lt f s.flags) (nat_lt g s.flags) h k
  compared_fits (Asked.Flag f) c (Asked.Pointer p) h k = constant_fits s false
  compared_fits (Asked.Flag f) c Asked.Null h k = constant_fits s false
  compared_fits (Asked.Flag f) c (Asked.Key b) h k = constant_fits s false
  compared_fits (Asked.Flag f) c Asked.Nothing h k = constant_fits s false
  compared_fits (Asked.Pointer p) c (Asked.Flag g) h k = constant_fits s false
  compared_fits (Asked.Pointer p) c (Asked.Pointer q) h k = constant_fits s false
  compared_fits (Asked.Pointer p) c Asked.Null h k = pointer_fits s p (is_equality c) ∙ h
  compared_fits (Asked.Pointer p) c (Asked.Key b) h k = constant_fits s false
  compared_fits (Asked.Pointer p) c Asked.Nothing h k = constant_fits s false
  compared_fits Asked.Null c (Asked.Flag g) h k = constant_fits s false
  compared_fits Asked.Null c (Asked.Pointer p) h k = pointer_fits s p (is_equality c) ∙ k
  compared_fits Asked.Null c Asked.Null h k = constant_fits s (is_equality c)
  compared_fits Asked.Null c (Asked.Key b) h k = constant_fits s false
  compared_fits Asked.Null c Asked.Nothing h k = constant_fits s false
  compared_fits (Asked.Key a) c (Asked.Flag g) h k = constant_fits s false
  compared_fits (Asked.Key a) c (Asked.Pointer p) h k = constant_fits s false
  compared_fits (Asked.Key a) c Asked.Null h k = constant_fits s false
  compared_fits (Asked.Key a) c (Asked.Key b) h k = keys_fit s a (relation_of c) b ∙ and_so (term_fits s a) (term_fits s b) h k
  compared_fits (Asked.Key a) c Asked.Nothing h k = constant_fits s false
  compared_fits Asked.Nothing c b h k = constant_fits s false

  pub alone_fits : (set : Bool) (a : Asked) → flag_asked s a ≡ true → condition_fits s (condition_alone set a) ≡ true
  alone_fits set (Asked.Flag f) h = flag_fits s f set ∙ h
  alone_fits set (Asked.Pointer p) h = constant_fits s false
  alone_fits set Asked.Null h = constant_fits s false
  alone_fits set (Asked.Key a) h = constant_fits s false
  alone_fits set Asked.Nothing h = constant_fits s false

module _ (names : Declared) where
  flag_given : (setting : Setting) (f : ℕ) → nat_lt f (length names.flags) ≡ true → nat_lt f (scope_at names setting).flags ≡ true
  flag_given Setting.Edge f h = h
  flag_given Setting.Holds f h = h
  flag_given Setting.Keep f h = h
  flag_given Setting.Freeze f h = h
  flag_given Setting.Method f h = h

  -- ---- pointers stand in keeps alone, and the walked key in no freeze

  no_pointer_here : (setting : Setting) (node : NodeMeaning) (p : Place) → unknown_node node p ++ [] ++ misplaced (dotted setting node FieldMeaning.Pointer) p ≡ [] → (i : ℕ) → nat_lt i (length names.pointers) ≡ true → nat_lt i (scope_at names setting).pointers ≡ true
  no_pointer_here Setting.Keep node p h i below = below
  no_pointer_here Setting.Method node p h i below = below
  no_pointer_here Setting.Edge NodeMeaning.Unknown p h i below = absurd (cc)
  no_pointer_here Setting.Edge NodeMeaning.Key p h i below = absurd (cc)
  no_pointer_here Setting.Edge NodeMeaning.Node p h i below = absurd (cc)
  no_pointer_here Setting.Edge NodeMeaning.Root p h i below = absurd (cc)
  no_pointer_here Setting.Holds NodeMeaning.Unknown p h i below = absurd (cc)
  no_pointer_here Setting.Holds NodeMeaning.Key p h i below = absurd (cc)
  no_pointer_here Setting.Holds NodeMeaning.Node p h i below = absurd (cc)
  no_pointer_here Setting.Holds NodeMeaning.Root p h i below = absurd (cc)
  no_pointer_here Setting.Freeze NodeMeaning.Unknown p h i below = absurd (cc)
  no_pointer_here Setting.Freeze NodeMeaning.Key p h i below = absurd (cc)
  no_pointer_here Setting.Freeze NodeMeaning.Node p h i below = absurd (cc)
  no_pointer_here Setting.Freeze NodeMeaning.Root p h i below = absurd (cc)

  walked_given : (setting : Setting) (node : NodeMeaning) (p : Place) → unknown_node node p ++ misplaced (alone setting node) p ≡ [] → (scope_at names setting).walked ≡ true
  walked_given Setting.Edge node p h = refl
  walked_given Setting.Holds node p h = refl
  walked_given Setting.Keep node p h = refl
  walked_given Setting.Method node p h = refl
  walked_given Setting.Freeze NodeMeaning.Unknown p h = absurd (cc)
  walked_given Setting.Freeze NodeMeaning.Key p h = absurd (cc)
  walked_given Setting.Freeze NodeMeaning.Node p h = absurd (cc)
  walked_given Setting.Freeze NodeMeaning.Root p h = absurd (cc)

  -- ---- visits stand in keeps alone

  visited_given : (setting : Setting) → is_keep (header_scope setting).setting ≡ true → (scope_at names setting).visited ≡ true
  visited_given Setting.Keep h = refl
  visited_given Setting.Edge h = h
  visited_given Setting.Holds h = h
  visited_given Setting.Freeze h = h
  visited_given Setting.Method h = h

  module _ (setting : Setting) where
    -- ---- operands

    known_pointer : (f : Name) (flag pointer : Bool) → is_among names.flags f.label ≡ flag → flag ≡ false → is_among names.pointers f.label ≡ pointer → pointer ≡ true → label_meaning names f.label ≡ FieldMeaning.Pointer
    known_pointer f true pointer e h k n = absurd (cc)
    known_pointer f false false e h k n = absurd (cc)
    known_pointer f false true e h k n = rw (e, k) refl

    field_fits : (node : Reference) (f : Name) (flag pointer : Option ℕ) → number_of f.label names.flags ≡ flag → number_of f.label names.pointers ≡ pointer → ((i : ℕ) → flag ≡ Some i → nat_lt i (length names.flags) ≡ true) → ((i : ℕ) → pointer ≡ Some i → nat_lt i (length names.pointers) ≡ true) → operand_rules names (header_scope setting) (Operand.Node node (Some (Field.Name f))) ≡ [] → asked_fits (scope_at names setting) (option_map_or Asked.Flag flag (option_map_or Asked.Pointer pointer Asked.Nothing)) ≡ true
    field_fits node f (Some i) pointer e k below under h = flag_given setting i (below i refl)
    field_fits node f None None e k below under h = refl
    field_fits node f None (Some i) e k below under h =
        let is_pointer = known_pointer f (is_among names.flags f.label) (is_among names.pointers f.label) refl (not_numbered f.label names.flags e) refl (numbered_among f.label names.pointers i k) in
        no_pointer_here setting (reference_meaning (header_scope setting) node) (reference_place node)
        (subst (λ (m : FieldMeaning). unknown_node (reference_meaning (header_scope setting) node) (reference_place node) ++ unknown_label m f.place
        ++ misplaced (dotted setting (reference_meaning (header_scope setting) node) m) (reference_place node) ≡ []) is_pointer h)
        i (under i refl)

    operand_fits : (o : Operand) → operand_rules names (header_scope setting) o ≡ [] → asked_fits (scope_at names setting) (asked_of names o) ≡ true
    operand_fits (Operand.Node node None) h = walked_given setting (reference_meaning (header_scope setting) node) (reference_place node) h
    operand_fits (Operand.Node node (Some (Field.Key p))) h = refl
    operand_fits (Operand.Node node (Some (Field.Name f))) h =
        field_fits node f (number_of f.label names.flags) (number_of f.label names.pointers) refl refl
        (λ i e. numbered_below f.label names.flags i e) (λ i e. numbered_below f.label names.pointers i e) h
    operand_fits (Operand.Min p) h = refl
    operand_fits (Operand.Max p) h = refl
    operand_fits (Operand.Null p) h = refl

    pub field_alone : (f : Name) → flag_asked (scope_at names setting) (asked_field names f) ≡ true
    field_alone f =
        number_so (flag_asked (scope_at names setting)) Asked.Flag (option_map_or Asked.Pointer (number_of f.label names.pointers) Asked.Nothing) f.label names.flags
        (flag_given setting)
        (number_so (flag_asked (scope_at names setting)) Asked.Pointer Asked.Nothing f.label names.pointers (λ i below. refl) refl)

    operand_alone : (o : Operand) → flag_asked (scope_at names setting) (asked_of names o) ≡ true
    operand_alone (Operand.Node node None) = refl
    operand_alone (Operand.Node node (Some (Field.Key p))) = refl
    operand_alone (Operand.Node node (Some (Field.Name f))) = field_alone f
    operand_alone (Operand.Min p) = refl
    operand_alone (Operand.Max p) = refl
    operand_alone (Operand.Null p) = refl

    -- ---- atoms

    pub ended_fits : (o : Operand) (end : AtomEnd) → atom_end_rules names (header_scope setting) o end ≡ [] → condition_fits (scope_at names setting) (condition_ended names (asked_of names o) end) ≡ true
    ended_fits o AtomEnd.Nothing h = alone_fits (scope_at names setting) true (asked_of names o) (operand_alone o)
    ended_fits o (AtomEnd.Compared comparison p second) h =
        let sc = header_scope setting in
        let both = left_none (operand_rules names sc o ++ operand_rules names sc second)
        (compared setting comparison (operand_meaning names sc o) (operand_place o) (operand_meaning names sc second) (operand_place second)) h in
        compared_fits (scope_at names setting) (asked_of names o) comparison (asked_of names second)
        (operand_fits o (left_none (operand_rules names sc o) (operand_rules names sc second) both))
        (operand_fits second (right_none (operand_rules names sc o) (operand_rules names sc second) both))
    ended_fits o (AtomEnd.In p node) h =
        visited_fits (scope_at names setting) ∙ visited_given setting (visits_in_keeps names (header_scope setting) o p node h)
