-- What an operand is, by its names: the rules of typing and the program say the same, where no rule is broken.
use Rattle.std.proofs.Common.{◌≡◌, ℕ, Bool, true, false, List, Option, None, Some, refl, sym, ◌∙◌, if◌then◌else◌}
use Rattle.std.specs.Option.{option_map_or}
use Rattle.std.proofs.lemmas.Bool.{false≢true}
use Rattle.plank_rules.specs.declared.scopes.Setting.{Setting}
use Rattle.plank_rules.specs.declared.names.Declared.{Declared}
use Rattle.plank_rules.specs.declared.meanings.NodeMeaning.{NodeMeaning}
use Rattle.plank_rules.specs.declared.meanings.FieldMeaning.{FieldMeaning}
use Rattle.plank_rules.specs.declared.meanings.Meaning.{Meaning}
use Rattle.plank_rules.specs.Declarations.{number_of}
use Rattle.plank_rules.specs.Meanings.{is_header, is_freeze, reads_pointers, label_meaning, alone, read, misread, dotted}
use Rattle.plank_rules.specs.Atoms.{is_sound}
use Rattle.plank_type.proofs.NamesOnce.{numbered_among, not_numbered}

-- what a field is after a node that has it
abbrev pub kind_of_field : FieldMeaning → Meaning
kind_of_field FieldMeaning.Unknown = Meaning.Unknown
kind_of_field FieldMeaning.Key = Meaning.Key
kind_of_field FieldMeaning.Flag = Meaning.Flag
kind_of_field FieldMeaning.Pointer = Meaning.Pointer

pub either_is : (test : Bool) (kind m n : Meaning) → (is_sound m ≡ true → kind ≡ m) → (is_sound n ≡ true → kind ≡ n) → is_sound (if test then m else n) ≡ true → kind ≡ (if test then m else n)
either_is true kind m n h k sound = h sound
either_is false kind m n h k sound = k sound

misread_field : (field : FieldMeaning) → is_sound (misread field) ≡ true → kind_of_field field ≡ misread field
misread_field FieldMeaning.Unknown sound = refl
misread_field FieldMeaning.Key sound = absurd (false≢true sound)
misread_field FieldMeaning.Flag sound = absurd (false≢true sound)
misread_field FieldMeaning.Pointer sound = absurd (false≢true sound)

read_field : (setting : Setting) (field : FieldMeaning) → is_sound (read setting field) ≡ true → kind_of_field field ≡ read setting field
read_field setting FieldMeaning.Unknown sound = refl
read_field setting FieldMeaning.Key sound = refl
read_field setting FieldMeaning.Flag sound = refl
read_field setting FieldMeaning.Pointer sound =
    either_is (reads_pointers setting) Meaning.Pointer Meaning.Pointer Meaning.Wrong (λ s. refl) (λ s. absurd (false≢true s)) sound

-- what a field is, where it may stand after this name
pub dotted_field : (setting : Setting) (node : NodeMeaning) (field : FieldMeaning) → is_sound (dotted setting node field) ≡ true → kind_of_field field ≡ dotted setting node field
dotted_field setting NodeMeaning.Unknown field sound = absurd (false≢true sound)
dotted_field setting NodeMeaning.Key field sound = misread_field field sound
dotted_field setting NodeMeaning.Node field sound = read_field setting field sound
dotted_field setting NodeMeaning.Root field sound =
    either_is (is_header setting) (kind_of_field field) (misread field) (read setting field) (misread_field field) (read_field setting field) sound

-- a name alone in the header is the walked key
pub alone_is_key : (setting : Setting) (node : NodeMeaning) → is_header setting ≡ true → is_sound (alone setting node) ≡ true → Meaning.Key ≡ alone setting node
alone_is_key setting NodeMeaning.Unknown header sound = absurd (false≢true sound)
alone_is_key setting NodeMeaning.Key header sound =
    either_is (is_freeze setting) Meaning.Key Meaning.Wrong Meaning.Key (λ s. absurd (false≢true s)) (λ s. refl) sound
alone_is_key setting NodeMeaning.Node header sound = wrong_alone (is_header setting) header sound
  where
    wrong_alone : (b : Bool) → b ≡ true → is_sound (if b then Meaning.Wrong else Meaning.Node) ≡ true → Meaning.Key ≡ (if b then Meaning.Wrong else Meaning.Node)
    wrong_alone true h s = absurd (false≢true s)
    wrong_alone false h s = absurd (false≢true h)
alone_is_key setting NodeMeaning.Root header sound = wrong_alone (is_header setting) header sound
  where
    wrong_alone : (b : Bool) → b ≡ true → is_sound (if b then Meaning.Wrong else Meaning.Node) ≡ true → Meaning.Key ≡ (if b then Meaning.Wrong else Meaning.Node)
    wrong_alone true h s = absurd (false≢true s)
    wrong_alone false h s = absurd (false≢true h)

-- a field by its number is what the rules say
pub numbered_field : {A : Type 0} (kind : A → Meaning) (flag pointer : ℕ → A) (nothing : A) → ((i : ℕ) → kind (flag i) ≡ Meaning.Flag) → ((i : ℕ) → kind (pointer i) ≡ Meaning.Pointer) → kind nothing ≡ Meaning.Unknown → (names : Declared) (label : List ℕ) → kind (option_map_or flag (number_of label names.flags) (option_map_or pointer (number_of label names.pointers) nothing)) ≡ kind_of_field (label_meaning names label)
numbered_field kind flag pointer nothing of_flag of_pointer of_nothing names label = by_numbers (number_of label names.flags) (number_of label names.pointers) refl refl
  where
    by_numbers : (o p : Option ℕ) → number_of label names.flags ≡ o → number_of label names.pointers ≡ p → kind (option_map_or flag o (option_map_or pointer p nothing)) ≡ kind_of_field (label_meaning names label)
    by_numbers (Some i) p e k = of_flag i ∙ sym (rw (numbered_among label names.flags i e) refl)
    by_numbers None (Some i) e k = of_pointer i ∙ sym (rw (not_numbered label names.flags e, numbered_among label names.pointers i k) refl)
    by_numbers None None e k = of_nothing ∙ sym (rw (not_numbered label names.flags e, not_numbered label names.pointers k) refl)
