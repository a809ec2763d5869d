-- The conditions of a header that break no rule of typing ask for no more than is given where they stand, and are told
-- whole, by induction over conditions.
use Rattle.std.proofs.Common.{◌≡◌, Bool, true, false, List, [], ◌∷◌, map, refl, sym, ◌∙◌, ap, subst}
use Rattle.std.specs.List.{flat_map}
use Rattle.plank_ast.specs.declared.conditions.Condition.{Condition as ConditionTree}
use Rattle.plank_ast.specs.declared.conditions.Conjunction.{Conjunction}
use Rattle.plank_ast.specs.declared.conditions.Literal.{Literal}
use Rattle.plank_ast.specs.declared.conditions.Literal.TheOpen.{Literal-F, Condition-F, Conjunction-F}
use Rattle.plank_ast.specs.declared.conditions.Literal.TheViews.{roll-Literal, roll-Condition, roll-Conjunction}
use Rattle.plank_ast.specs.declared.conditions.Literal.TheFolds.{map-Literal, map-Condition, map-Conjunction, fold-roll-Literal, fold-roll-Condition, fold-roll-Conjunction, ind-Condition}
use Rattle.plank_prog.specs.declared.conditions.Condition.{Condition}
use Rattle.plank_prog.specs.declared.scopes.Scope.{Scope}
use Rattle.plank_prog.specs.Conditions.{all_true}
use Rattle.plank_prog.specs.Scopes.{condition_fits}
use Rattle.plank_prog.proofs.Values.{condition_fits-All, condition_fits-Any}
use Rattle.plank_rules.specs.declared.broken.Broken.{Broken}
use Rattle.plank_rules.specs.declared.scopes.Setting.{Setting}
use Rattle.plank_rules.specs.declared.names.Declared.{Declared}
use Rattle.plank_rules.specs.Meanings.{is_header}
use Rattle.plank_rules.specs.Headers.{header_scope}
use Rattle.plank_rules.specs.Conditions.{literal_layer as rules_in_literal, condition_layer as rules_in_condition, conjunction_layer as rules_in_conjunction, literal_rules, condition_rules, conjunction_rules}
use Rattle.plank_type.specs.Conditions.{asked_field, literal_step, condition_step, conjunction_step, condition_of, conjunction_of, literal_of}
use Rattle.plank_type.proofs.PlainConditions.{constant_fits}
use Rattle.plank_type.specs.Told.{literal_told, condition_told, conjunction_told, literal_is_told, condition_is_told, conjunction_is_told}
use Rattle.plank_type.proofs.ConditionsTold.{end_told, negation_told}
use Rattle.plank_type.proofs.OperandsFit.{scope_at, alone_fits, field_alone, ended_fits}
use Rattle.plank_type.proofs.Tests.{and_so, left_none, right_none}

module _ (names : Declared) (setting : Setting) (in_header : is_header setting ≡ true) where
  abbrev scope : Scope
  scope = scope_at names setting

  abbrev rules_of_literal : Literal → List Broken
  rules_of_literal l = literal_rules names (header_scope setting) l

  abbrev rules_of : ConditionTree → List Broken
  rules_of c = condition_rules names (header_scope setting) c

  abbrev rules_of_conjunction : Conjunction → List Broken
  rules_of_conjunction c = conjunction_rules names (header_scope setting) c

  -- a condition that fits and is told where these rules are not broken
  pub record Fits (broken : List Broken) (c : Condition) (told : Bool) : Type 0 where
    pub fits : broken ≡ [] → condition_fits scope c ≡ true
    pub is_told : broken ≡ [] → told ≡ true

  abbrev LiteralFits : Literal → Type 0
  LiteralFits l = Fits (rules_of_literal l) (literal_of names l) (literal_is_told names l)

  abbrev ConditionFits : ConditionTree → Type 0
  ConditionFits c = Fits (rules_of c) (condition_of names c) (condition_is_told names c)

  abbrev ConjunctionFits : Conjunction → Type 0
  ConjunctionFits c = Fits (rules_of_conjunction c) (conjunction_of names c) (conjunction_is_told names c)

  -- a part with its proof
  abbrev FitLiteral : Type 0
  FitLiteral = (l : Literal) × LiteralFits l

  abbrev FitCondition : Type 0
  FitCondition = (c : ConditionTree) × ConditionFits c

  abbrev FitConjunction : Type 0
  FitConjunction = (c : Conjunction) × ConjunctionFits c

  literals_fit : (ls : List FitLiteral) → flat_map (λ rules. rules) (map rules_of_literal (map (λ e. e.0) ls)) ≡ [] → all_true (map (condition_fits scope) (map (literal_of names) (map (λ e. e.0) ls))) ≡ true
  literals_fit [] none = refl
  literals_fit (e ∷ ls) none =
      let rest = flat_map (λ rules. rules) (map rules_of_literal (map (λ d. d.0) ls)) in
      and_so (condition_fits scope (literal_of names e.0)) (all_true (map (condition_fits scope) (map (literal_of names) (map (λ d. d.0) ls))))
      (e.1.fits (left_none (rules_of_literal e.0) rest none)) (literals_fit ls (right_none (rules_of_literal e.0) rest none))

  conjunctions_fit : (cs : List FitConjunction) → flat_map (λ rules. rules) (map rules_of_conjunction (map (λ e. e.0) cs)) ≡ [] → all_true (map (condition_fits scope) (map (conjunction_of names) (map (λ e. e.0) cs))) ≡ true
  conjunctions_fit [] none = refl
  conjunctions_fit (e ∷ cs) none =
      let rest = flat_map (λ rules. rules) (map rules_of_conjunction (map (λ d. d.0) cs)) in
      and_so (condition_fits scope (conjunction_of names e.0)) (all_true (map (condition_fits scope) (map (conjunction_of names) (map (λ d. d.0) cs))))
      (e.1.fits (left_none (rules_of_conjunction e.0) rest none)) (conjunctions_fit cs (right_none (rules_of_conjunction e.0) rest none))

  literals_told : (ls : List FitLiteral) → flat_map (λ rules. rules) (map rules_of_literal (map (λ e. e.0) ls)) ≡ [] → all_true (map (literal_is_told names) (map (λ e. e.0) ls)) ≡ true
  literals_told [] none = refl
  literals_told (e ∷ ls) none =
      let rest = flat_map (λ rules. rules) (map rules_of_literal (map (λ d. d.0) ls)) in
      and_so (literal_is_told names e.0) (all_true (map (literal_is_told names) (map (λ d. d.0) ls)))
      (e.1.is_told (left_none (rules_of_literal e.0) rest none)) (literals_told ls (right_none (rules_of_literal e.0) rest none))

  conjunctions_told : (cs : List FitConjunction) → flat_map (λ rules. rules) (map rules_of_conjunction (map (λ e. e.0) cs)) ≡ [] → all_true (map (conjunction_is_told names) (map (λ e. e.0) cs)) ≡ true
  conjunctions_told [] none = refl
  conjunctions_told (e ∷ cs) none =
      let rest = flat_map (λ rules. rules) (map rules_of_conjunction (map (λ d. d.0) cs)) in
      and_so (conjunction_is_told names e.0) (all_true (map (conjunction_is_told names) (map (λ d. d.0) cs)))
      (e.1.is_told (left_none (rules_of_conjunction e.0) rest none)) (conjunctions_told cs (right_none (rules_of_conjunction e.0) rest none))

  abbrev plain_literal : Literal-F FitLiteral FitCondition FitConjunction → Literal-F Literal ConditionTree Conjunction
  plain_literal y = map-Literal FitLiteral FitCondition FitConjunction Literal ConditionTree Conjunction (λ e. e.0) (λ e. e.0) (λ e. e.0) y

  abbrev plain_condition : Condition-F FitLiteral FitCondition FitConjunction → Condition-F Literal ConditionTree Conjunction
  plain_condition y = map-Condition FitLiteral FitCondition FitConjunction Literal ConditionTree Conjunction (λ e. e.0) (λ e. e.0) (λ e. e.0) y

  abbrev plain_conjunction : Conjunction-F FitLiteral FitCondition FitConjunction → Conjunction-F Literal ConditionTree Conjunction
  plain_conjunction y = map-Conjunction FitLiteral FitCondition FitConjunction Literal ConditionTree Conjunction (λ e. e.0) (λ e. e.0) (λ e. e.0) y

  -- the rules of one layer, the condition that it comes to, and whether it is told
  abbrev literal_broken : Literal-F Literal ConditionTree Conjunction → List Broken
  literal_broken z = rules_in_literal names (header_scope setting) (map-Literal Literal ConditionTree Conjunction (List Broken) (List Broken) (List Broken) rules_of_literal rules_of rules_of_conjunction z)

  abbrev literal_made : Literal-F Literal ConditionTree Conjunction → Condition
  literal_made z = literal_step names (map-Literal Literal ConditionTree Conjunction Condition Condition Condition (literal_of names) (condition_of names) (conjunction_of names) z)

  abbrev condition_broken : Condition-F Literal ConditionTree Conjunction → List Broken
  condition_broken z = rules_in_condition (map-Condition Literal ConditionTree Conjunction (List Broken) (List Broken) (List Broken) rules_of_literal rules_of rules_of_conjunction z)

  abbrev condition_made : Condition-F Literal ConditionTree Conjunction → Condition
  condition_made z = condition_step (map-Condition Literal ConditionTree Conjunction Condition Condition Condition (literal_of names) (condition_of names) (conjunction_of names) z)

  abbrev conjunction_broken : Conjunction-F Literal ConditionTree Conjunction → List Broken
  conjunction_broken z = rules_in_conjunction (map-Conjunction Literal ConditionTree Conjunction (List Broken) (List Broken) (List Broken) rules_of_literal rules_of rules_of_conjunction z)

  abbrev conjunction_made : Conjunction-F Literal ConditionTree Conjunction → Condition
  conjunction_made z = conjunction_step (map-Conjunction Literal ConditionTree Conjunction Condition Condition Condition (literal_of names) (condition_of names) (conjunction_of names) z)

  abbrev literal_told_by : Literal-F Literal ConditionTree Conjunction → Bool
  literal_told_by z = literal_told names (map-Literal Literal ConditionTree Conjunction Bool Bool Bool (literal_is_told names) (condition_is_told names) (conjunction_is_told names) z)

  abbrev condition_told_by : Condition-F Literal ConditionTree Conjunction → Bool
  condition_told_by z = condition_told (map-Condition Literal ConditionTree Conjunction Bool Bool Bool (literal_is_told names) (condition_is_told names) (conjunction_is_told names) z)

  abbrev conjunction_told_by : Conjunction-F Literal ConditionTree Conjunction → Bool
  conjunction_told_by z = conjunction_told (map-Conjunction Literal ConditionTree Conjunction Bool Bool Bool (literal_is_told names) (condition_is_told names) (conjunction_is_told names) z)

  literal_layer : (y : Literal-F FitLiteral FitCondition FitConjunction) → Fits (literal_broken (plain_literal y)) (literal_made (plain_literal y)) (literal_told_by (plain_literal y))
  literal_layer (Literal-F.True place) = record { fits = λ none. constant_fits scope true; is_told = λ none. refl }
  literal_layer (Literal-F.False place) = record { fits = λ none. constant_fits scope false; is_told = λ none. refl }
  literal_layer (Literal-F.Group place inner) = record { fits = inner.1.fits; is_told = inner.1.is_told }
  literal_layer (Literal-F.Not place node field) = record {
    fits = λ none. alone_fits scope false (asked_field names field) (field_alone names setting field);
    is_told = λ none. negation_told setting in_header names node field none;
  }
  literal_layer (Literal-F.Atom atom) = record {
    fits = λ none. ended_fits names setting atom.operand atom.end none;
    is_told = λ none. end_told setting in_header names atom.operand atom.end none;
  }

  -- the same of a whole part as of its layer
  same_fits : (broken folded : List Broken) (c d : Condition) (a b : Bool) → folded ≡ broken → d ≡ c → b ≡ a → Fits broken c a → Fits folded d b
  same_fits broken folded c d a b e f g so = record {
    fits = λ none. ap (condition_fits scope) f ∙ so.fits (sym e ∙ none);
    is_told = λ none. g ∙ so.is_told (sym e ∙ none);
  }

  pub condition_of_fits : (c : ConditionTree) → ConditionFits c
  condition_of_fits = ind-Condition LiteralFits ConditionFits ConjunctionFits
      (λ x y is. subst (λ (z : Literal-F Literal ConditionTree Conjunction). LiteralFits (roll-Literal z)) is
      (let z = plain_literal y in
      same_fits (literal_broken z) (rules_of_literal (roll-Literal z)) (literal_made z) (literal_of names (roll-Literal z)) (literal_told_by z) (literal_is_told names (roll-Literal z))
      (fold-roll-Literal (List Broken) (List Broken) (List Broken) (rules_in_literal names (header_scope setting)) rules_in_condition rules_in_conjunction z)
      (fold-roll-Literal Condition Condition Condition (literal_step names) condition_step conjunction_step z)
      (fold-roll-Literal Bool Bool Bool (literal_told names) condition_told conjunction_told z) (literal_layer y)))
      (λ x y is. subst (λ (z : Condition-F Literal ConditionTree Conjunction). ConditionFits (roll-Condition z)) is
      (let z = plain_condition y in
      same_fits (condition_broken z) (rules_of (roll-Condition z)) (condition_made z) (condition_of names (roll-Condition z)) (condition_told_by z) (condition_is_told names (roll-Condition z))
      (fold-roll-Condition (List Broken) (List Broken) (List Broken) (rules_in_literal names (header_scope setting)) rules_in_condition rules_in_conjunction z)
      (fold-roll-Condition Condition Condition Condition (literal_step names) condition_step conjunction_step z)
      (fold-roll-Condition Bool Bool Bool (literal_told names) condition_told conjunction_told z)
      (record {
        fits = λ none. condition_fits-Any scope (conjunction_of names y.first.0 ∷ map (conjunction_of names) (map (λ e. e.0) y.others)) ∙ conjunctions_fit (y.first ∷ y.others) none;
        is_told = λ none. conjunctions_told (y.first ∷ y.others) none;
      })))
      (λ x y is. subst (λ (z : Conjunction-F Literal ConditionTree Conjunction). ConjunctionFits (roll-Conjunction z)) is
      (let z = plain_conjunction y in
      same_fits (conjunction_broken z) (rules_of_conjunction (roll-Conjunction z)) (conjunction_made z) (conjunction_of names (roll-Conjunction z)) (conjunction_told_by z) (conjunction_is_told names (roll-Conjunction z))
      (fold-roll-Conjunction (List Broken) (List Broken) (List Broken) (rules_in_literal names (header_scope setting)) rules_in_condition rules_in_conjunction z)
      (fold-roll-Conjunction Condition Condition Condition (literal_step names) condition_step conjunction_step z)
      (fold-roll-Conjunction Bool Bool Bool (literal_told names) condition_told conjunction_told z)
      (record {
        fits = λ none. condition_fits-All scope (literal_of names y.first.0 ∷ map (literal_of names) (map (λ e. e.0) y.others)) ∙ literals_fit (y.first ∷ y.others) none;
        is_told = λ none. literals_told (y.first ∷ y.others) none;
      })))
