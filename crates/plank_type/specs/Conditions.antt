-- What the conditions of a header mean, with numbers in the place of names. A part that breaks a typing rule never holds.
use Rattle.std.specs.Prelude.{Bool, true, false, ◌∷◌, Option, Some, None}
use Rattle.std.specs.Option.{option_map_or}
use Rattle.plank_ast.specs.declared.names.Name.{Name}
use Rattle.plank_ast.specs.declared.names.Field.{Field}
use Rattle.plank_ast.specs.declared.conditions.Comparison.{Comparison}
use Rattle.plank_ast.specs.declared.conditions.Operand.{Operand}
use Rattle.plank_ast.specs.declared.conditions.AtomEnd.{AtomEnd}
use Rattle.plank_ast.specs.declared.conditions.Atom.{Atom}
use Rattle.plank_ast.specs.declared.conditions.Condition.{Condition as ConditionTree}
use Rattle.plank_ast.specs.declared.conditions.Conjunction.{Conjunction}
use Rattle.plank_ast.specs.declared.conditions.Literal.{Literal}
use Rattle.plank_ast.specs.declared.conditions.Literal.TheOpen.{Literal-F, Condition-F, Conjunction-F}
use Rattle.plank_ast.specs.declared.conditions.Literal.TheFolds.{fold-Condition, fold-Conjunction, fold-Literal}
use Rattle.plank_prog.specs.declared.conditions.Condition.{Condition}
use Rattle.plank_prog.specs.declared.conditions.Condition.TheVariants.{All, Any}
use Rattle.plank_prog.specs.declared.conditions.KeyTerm.TheVariants as term
use Rattle.plank_prog.specs.declared.conditions.KeyRelation.{KeyRelation}
use Rattle.plank_rules.specs.declared.names.Declared.{Declared}
use Rattle.plank_type.specs.declared.conditions.Asked.{Asked}
use Rattle.plank_rules.specs.Declarations.{number_of}

abbrev pub relation_of : Comparison → KeyRelation
relation_of Comparison.Equal = KeyRelation.Equal
relation_of Comparison.NotEqual = KeyRelation.NotEqual
relation_of Comparison.Less = KeyRelation.Less
relation_of Comparison.AtMost = KeyRelation.AtMost

-- whether what is compared is to be equal; flags and pointers have no order
abbrev pub is_equality : Comparison → Bool
is_equality Comparison.Equal = true
is_equality Comparison.NotEqual = false
is_equality Comparison.Less = false
is_equality Comparison.AtMost = false

-- a field of the node
abbrev pub asked_field : Declared → Name → Asked
asked_field names f =
    option_map_or Asked.Flag (number_of f.label names.flags)
    (option_map_or Asked.Pointer (number_of f.label names.pointers) Asked.Nothing)

-- only the walked key stands alone, and only the node before a dot
abbrev pub asked_part : Declared → Option Field → Asked
asked_part names None = Asked.Key term.Walked
asked_part names (Some (Field.Key place)) = Asked.Key term.Node
asked_part names (Some (Field.Name f)) = asked_field names f

-- what an operand asks for
abbrev pub asked_of : Declared → Operand → Asked
asked_of names (Operand.Node node field) = asked_part names field
asked_of names (Operand.Min place) = Asked.Key term.Min
asked_of names (Operand.Max place) = Asked.Key term.Max
asked_of names (Operand.Null place) = Asked.Null

abbrev pub condition_compared : Asked → Comparison → Asked → Condition
condition_compared (Asked.Flag f) c (Asked.Flag g) = Condition.Flags f g (is_equality c)
condition_compared (Asked.Pointer p) c Asked.Null = Condition.Pointer p (is_equality c)
condition_compared Asked.Null c (Asked.Pointer p) = Condition.Pointer p (is_equality c)
condition_compared Asked.Null c Asked.Null = Condition.Constant (is_equality c)
condition_compared (Asked.Key a) c (Asked.Key b) = Condition.Keys a (relation_of c) b
condition_compared a c b = Condition.Constant false

-- a flag alone, which the node is to have or not to have
abbrev pub condition_alone : Bool → Asked → Condition
condition_alone set (Asked.Flag f) = Condition.Flag f set
condition_alone set (Asked.Pointer p) = Condition.Constant false
condition_alone set Asked.Null = Condition.Constant false
condition_alone set (Asked.Key a) = Condition.Constant false
condition_alone set Asked.Nothing = Condition.Constant false

abbrev pub condition_ended : Declared → Asked → AtomEnd → Condition
condition_ended names first AtomEnd.Nothing = condition_alone true first
condition_ended names first (AtomEnd.Compared comparison place second) = condition_compared first comparison (asked_of names second)
condition_ended names first (AtomEnd.In place node) = Condition.Visited

abbrev pub atom_condition : Declared → Atom → Condition
atom_condition names a = condition_ended names (asked_of names a.operand) a.end

abbrev pub negated_condition : Declared → Name → Condition
negated_condition names field = condition_alone false (asked_field names field)

-- one layer of a condition, its parts read already
abbrev pub literal_step : Declared → Literal-F Condition Condition Condition → Condition
literal_step names (Literal-F.True place) = Condition.Constant true
literal_step names (Literal-F.False place) = Condition.Constant false
literal_step names (Literal-F.Group place inner) = inner
literal_step names (Literal-F.Not place node field) = negated_condition names field
literal_step names (Literal-F.Atom atom) = atom_condition names atom

abbrev pub condition_step : Condition-F Condition Condition Condition → Condition
condition_step c = Any (c.first ∷ c.others)

abbrev pub conjunction_step : Conjunction-F Condition Condition Condition → Condition
conjunction_step c = All (c.first ∷ c.others)

abbrev pub condition_of : Declared → ConditionTree → Condition
condition_of names = fold-Condition Condition Condition Condition (literal_step names) condition_step conjunction_step

abbrev pub conjunction_of : Declared → Conjunction → Condition
conjunction_of names = fold-Conjunction Condition Condition Condition (literal_step names) condition_step conjunction_step

abbrev pub literal_of : Declared → Literal → Condition
literal_of names = fold-Literal Condition Condition Condition (literal_step names) condition_step conjunction_step
