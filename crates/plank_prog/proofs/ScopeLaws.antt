-- A condition that fits a scope has one value at all views that agree within the scope, by induction over conditions.
use Rattle.std.proofs.Common.{◌≡◌, ℕ, ℤ, Bool, true, false, not, ◌&&◌, List, [], ◌∷◌, map, Option, Some, None, refl, sym, ◌∙◌, ap, subst}
use Rattle.std.specs.Prelude.{pos, nat_lt}
use Rattle.std.specs.Bool.{beq}
use Rattle.std.specs.Option.{option_map_or}
use Rattle.std.specs.Cmp.{first_so, second_so}
use Rattle.std.proofs.lemmas.Bool.{ltb-true, false≢true}
use Rattle.plank_base.specs.declared.keys.Key.{Key}
use Rattle.plank_base.specs.Keys.{is_at_most}
use Rattle.plank_prog.specs.declared.conditions.KeyTerm.{KeyTerm}
use Rattle.plank_prog.specs.declared.conditions.KeyRelation.{KeyRelation}
use Rattle.plank_prog.specs.declared.conditions.Condition.{Condition}
use Rattle.plank_prog.specs.declared.conditions.Condition.TheOpen.{Condition-F}
use Rattle.plank_prog.specs.declared.conditions.Condition.TheViews.{roll-Condition}
use Rattle.plank_prog.specs.declared.conditions.Condition.TheFolds.{fold-roll-Condition, ind-Condition, map-Condition}
use Rattle.plank_prog.specs.declared.headers.Header.{Header}
use Rattle.plank_prog.specs.declared.scopes.Scope.{Scope}
use Rattle.plank_prog.specs.Conditions.{View, value, value_step, compares, all_true, some_true}
use Rattle.plank_prog.specs.Scopes.{condition_fits, fits_step, term_fits, AgreeWithin}
use Rattle.plank_prog.specs.Headers.{is_lawful_header, freeze_scope, optional_fits}
use Rattle.plank_prog.specs.Views.{key_of_term, view_of, value_at, is_frozen}
use Rattle.plank_prog.proofs.HeaderFacts.{lawful_freeze}

-- comparisons that read the same order
same_compares : (p q : KeyTerm → KeyTerm → Bool) (relation : KeyRelation) (a b : KeyTerm) → p a b ≡ q a b → p b a ≡ q b a → compares p relation a b ≡ compares q relation a b
same_compares p q KeyRelation.Equal a b there back = ap (λ x. x && p b a) there ∙ ap (λ y. q a b && y) back
same_compares p q KeyRelation.NotEqual a b there back = ap not (ap (λ x. x && p b a) there ∙ ap (λ y. q a b && y) back)
same_compares p q KeyRelation.Less a b there back = ap not back
same_compares p q KeyRelation.AtMost a b there back = there

module _ (s : Scope) (v w : View) (agree : AgreeWithin s v w) where
  abbrev HasOneValue : Condition → Type 0
  HasOneValue c = condition_fits s c ≡ true → value v c ≡ value w c

  parts_agree : (cs : List ((c : Condition) × HasOneValue c)) → all_true (map (condition_fits s) (map (λ e. e.0) cs)) ≡ true → map (value v) (map (λ e. e.0) cs) ≡ map (value w) (map (λ e. e.0) cs)
  parts_agree [] fits = refl
  parts_agree (e ∷ cs) fits =
      let first = e.1 (first_so (condition_fits s e.0) (all_true (map (condition_fits s) (map (λ d. d.0) cs))) fits) in
      let rest = parts_agree cs (second_so (condition_fits s e.0) (all_true (map (condition_fits s) (map (λ d. d.0) cs))) fits) in
      ap (λ b. b ∷ map (value v) (map (λ d. d.0) cs)) first ∙ ap (λ bs. value w e.0 ∷ bs) rest

  -- the layer under proofs beside the parts
  abbrev bare : Condition-F ((c : Condition) × HasOneValue c) → Condition-F Condition
  bare y = map-Condition ((c : Condition) × HasOneValue c) Condition (λ e. e.0) y

  layer_agrees : (y : Condition-F ((c : Condition) × HasOneValue c)) → fits_step s (map-Condition Condition Bool (condition_fits s) (bare y)) ≡ true → value_step v (map-Condition Condition Bool (value v) (bare y)) ≡ value_step w (map-Condition Condition Bool (value w) (bare y))
  layer_agrees (Condition-F.Constant b) fits = refl
  layer_agrees (Condition-F.Flag f set) fits = ap (λ b. beq b set) (agree.flag f (ltb-true f s.flags fits))
  layer_agrees (Condition-F.Flags f g equal) fits =
      let first = agree.flag f (ltb-true f s.flags (first_so (nat_lt f s.flags) (nat_lt g s.flags) fits)) in
      let second = agree.flag g (ltb-true g s.flags (second_so (nat_lt f s.flags) (nat_lt g s.flags) fits)) in
      ap (λ b. beq (beq b (v.flag g)) equal) first ∙ ap (λ b. beq (beq (w.flag f) b) equal) second
  layer_agrees (Condition-F.Pointer p null) fits = ap (λ b. beq b null) (agree.null p (ltb-true p s.pointers fits))
  layer_agrees (Condition-F.Keys a relation b) fits =
      let left = first_so (term_fits s a) (term_fits s b) fits in
      let right = second_so (term_fits s a) (term_fits s b) fits in
      same_compares v.at_most w.at_most relation a b (agree.at_most a b left right) (agree.at_most b a right left)
  layer_agrees Condition-F.Visited fits = agree.visited fits
  layer_agrees (Condition-F.All cs) fits = ap all_true (parts_agree cs fits)
  layer_agrees (Condition-F.Any cs) fits = ap some_true (parts_agree cs fits)

  pub scoped_value : (c : Condition) → HasOneValue c
  scoped_value = ind-Condition HasOneValue (λ x y is.
      let layer = bare y in
      subst (λ (z : Condition-F Condition). HasOneValue (roll-Condition z)) is
      (λ fits.
      fold-roll-Condition Bool (value_step v) layer
      ∙ layer_agrees y (sym (fold-roll-Condition Bool (fits_step s) layer) ∙ fits)
      ∙ sym (fold-roll-Condition Bool (value_step w) layer)))

-- ---- the condition of frozen nodes does not ask for a walked key

order_without_walk : (h : Header) (key : Key) (i j : ℤ) (a b : KeyTerm) → term_fits (freeze_scope h) a ≡ true → term_fits (freeze_scope h) b ≡ true → is_at_most (key_of_term key (Key.Num i) a) (key_of_term key (Key.Num i) b) ≡ is_at_most (key_of_term key (Key.Num j) a) (key_of_term key (Key.Num j) b)
order_without_walk h key i j KeyTerm.Walked b left right = absurd (false≢true left)
order_without_walk h key i j KeyTerm.Node KeyTerm.Walked left right = absurd (false≢true right)
order_without_walk h key i j KeyTerm.Node KeyTerm.Node left right = refl
order_without_walk h key i j KeyTerm.Node KeyTerm.Min left right = refl
order_without_walk h key i j KeyTerm.Node KeyTerm.Max left right = refl
order_without_walk h key i j KeyTerm.Min KeyTerm.Walked left right = absurd (false≢true right)
order_without_walk h key i j KeyTerm.Min KeyTerm.Node left right = refl
order_without_walk h key i j KeyTerm.Min KeyTerm.Min left right = refl
order_without_walk h key i j KeyTerm.Min KeyTerm.Max left right = refl
order_without_walk h key i j KeyTerm.Max KeyTerm.Walked left right = absurd (false≢true right)
order_without_walk h key i j KeyTerm.Max KeyTerm.Node left right = refl
order_without_walk h key i j KeyTerm.Max KeyTerm.Min left right = refl
order_without_walk h key i j KeyTerm.Max KeyTerm.Max left right = refl

freeze_at : (h : Header) (key : Key) (flags : ℕ) (i j : ℤ) (o : Option Condition) → optional_fits (freeze_scope h) o ≡ true → option_map_or (λ c. value_at c key flags i) o false ≡ option_map_or (λ c. value_at c key flags j) o false
freeze_at h key flags i j None fits = refl
freeze_at h key flags i j (Some c) fits =
    scoped_value (freeze_scope h) (view_of key flags [] (Key.Num i) false) (view_of key flags [] (Key.Num j) false)
    (record { at_most = order_without_walk h key i j; flag = λ f below. refl; null = λ p below. refl; visited = λ asked. refl })
    c fits

-- whether a node is frozen is the condition's value at each walked key
pub frozen_at : (h : Header) (key : Key) (flags : ℕ) (j : ℤ) → is_lawful_header h ≡ true → is_frozen h key flags ≡ option_map_or (λ c. value_at c key flags j) h.freeze false
frozen_at h key flags j lawful = freeze_at h key flags (pos 0) j h.freeze (lawful_freeze h lawful)
