-- The names after the step of a situation come from names that its pictures have.
use Rattle.std.proofs.Common.{◌≡◌, ℕ, suc, ◌<◌, ◌==◌, Bool, true, false, List, [], ◌∷◌, ◌++◌, length, append_assoc, refl, sym, ◌∙◌, ap, subst, inl, inr, arith}
use Rattle.std.specs.Prelude.{Some, None, is_none, unwrap_or, if◌then◌else◌, nat_lt}
use Rattle.std.proofs.lemmas.Bool.{true≢false, cases_Bool, cond-true, cond-false, ltb-true, eq-eqb}
use Rattle.plank_prog.specs.declared.blocks.Reference.{Reference}
use Rattle.plank_prog.specs.declared.blocks.Value.{Value}
use Rattle.plank_prog.specs.declared.blocks.Bind.{Bind}
use Rattle.plank_prog.specs.declared.methods.Action.{Action}
use Rattle.plank_prog.specs.declared.headers.Header.{Header}
use Rattle.plank_pic.specs.Steps.{Source, Of, Null, Fresh}
use Rattle.plank_pic.specs.TestedSteps.{ComesFromNames}
use Rattle.plank_pic.specs.Blocks.{Turn, name, has_name, bind_source, value_source, source}
use Rattle.plank_pic.specs.Calls.{binds_of, bind_place, own_names, own_name, own_turn}
use Rattle.plank_query.specs.declared.situations.Situation.{Situation}
use Rattle.plank_fact.specs.OwnSteps.{is_yes}
use Rattle.plank_query.specs.Situations.{frame}
use Rattle.plank_reach.specs.declared.stepping.Stepping.{Stepping}
use Rattle.plank_reach.specs.Steps.{step_of, names_in}

-- a source is of a name below this
abbrev Within : ℕ → Source → Type 0
Within n s = (m : ℕ) → s ≡ Of m → m < n

of_below : (n i : ℕ) → i < n → Within n (Of i)
of_below n i below m e = subst (λ k. k < n) (name_of e) below
  where
    named : Source → ℕ
    named (Of k) = k
    named Null = 0
    named Fresh = 0

    name_of : Of i ≡ Of m → i ≡ m
    name_of e = ap named e

null_within : (n : ℕ) → Within n Null
null_within n m e = absurd (true≢false (ap is_null e))
  where
    is_null : Source → Bool
    is_null (Of k) = false
    is_null Null = true
    is_null Fresh = false

fresh_within : (n : ℕ) → Within n Fresh
fresh_within n m e = absurd (true≢false (ap is_fresh e))
  where
    is_fresh : Source → Bool
    is_fresh (Of k) = false
    is_fresh Null = false
    is_fresh Fresh = true

-- ---- own turns

own_within : (variables : ℕ) (r : Reference) → unwrap_or (own_name variables r) 0 < suc variables
own_within variables Reference.Root = omega arith
own_within variables (Reference.Variable v) = elim (cases_Bool (nat_lt v variables)) [
  | inl below ↦ subst (λ o. unwrap_or o 0 < suc variables) (sym (cond-true (nat_lt v variables) (Some (suc v)) None below)) (let lt = ltb-true v variables below in omega (arith, lt))
  | inr past ↦ subst (λ o. unwrap_or o 0 < suc variables) (sym (cond-false (nat_lt v variables) (Some (suc v)) None past)) (omega arith)
]

-- the bind of a variable of the list has its place in it
place_within : (d : Bind) (before ds : List Bind) → bind_place d.to (before ++ d ∷ ds) < length (before ++ d ∷ ds)
place_within d [] ds = subst (λ n. n < suc (length ds)) (sym (cond-true (d.to == d.to) 0 (suc (bind_place d.to ds)) (eq-eqb d.to d.to refl))) (omega arith)
place_within d (b ∷ before) ds = elim (cases_Bool (b.to == d.to)) [
  | inl same ↦ subst (λ n. n < suc (length (before ++ d ∷ ds))) (sym (cond-true (b.to == d.to) 0 (suc (bind_place d.to (before ++ d ∷ ds))) same)) (omega arith)
  | inr other ↦ subst (λ n. n < suc (length (before ++ d ∷ ds))) (sym (cond-false (b.to == d.to) 0 (suc (bind_place d.to (before ++ d ∷ ds))) other)) (let rest = place_within d before ds in omega (arith, rest))
]

module _ (variables : ℕ) (action : Action) (exit : Bool) where
  abbrev s : Turn
  s = own_turn variables action exit

  binds_within : (i : ℕ) → i < own_names variables action → (before ds : List Bind) → binds_of action ≡ before ++ ds → Within (own_names variables action) (bind_source s i ds)
  binds_within i below before [] all = of_below (own_names variables action) i below
  binds_within i below before (d ∷ ds) all = elim (cases_Bool (has_name s d.to i)) [
    | inl is ↦ subst (Within (own_names variables action)) (sym (cond-true (has_name s d.to i) (Of (s.read_by d.to)) (bind_source s i ds) is))
        (of_below (own_names variables action) (s.read_by d.to) (let at = subst (λ bs. bind_place d.to bs < length bs) (sym all) (place_within d before ds) in omega (arith, at)))
    | inr is_not ↦ subst (Within (own_names variables action)) (sym (cond-false (has_name s d.to i) (Of (s.read_by d.to)) (bind_source s i ds) is_not))
        (binds_within i below (before ++ d ∷ []) ds (all ∙ sym (append_assoc before (d ∷ []) ds)))
  ]

  value_within : (v : Value) → Within (own_names variables action) (value_source s v)
  value_within Value.Null = null_within (own_names variables action)
  value_within (Value.Node q) = of_below (own_names variables action) (name s q) (let few = own_within variables q in omega (arith, few))

own_sources : (variables : ℕ) (action : Action) (exit : Bool) (i : ℕ) → i < own_names variables action → Within (own_names variables action) (source (own_turn variables action exit) i)
own_sources variables (Action.Block b) true i below = binds_within variables (Action.Block b) true i below [] b.binds refl
own_sources variables (Action.Block b) false i below = of_below (own_names variables (Action.Block b)) i below
own_sources variables (Action.Copy to from next) exit i below = by_name (has_name (own_turn variables (Action.Copy to from next) exit) to i)
  where
    by_name : (b : Bool) → Within (own_names variables (Action.Copy to from next)) (if b then value_source (own_turn variables (Action.Copy to from next) exit) from else Of i)
    by_name true = value_within variables (Action.Copy to from next) exit from
    by_name false = of_below (own_names variables (Action.Copy to from next)) i below
own_sources variables (Action.New to next) exit i below = by_name (has_name (own_turn variables (Action.New to next) exit) to i)
  where
    by_name : (b : Bool) → Within (own_names variables (Action.New to next)) (if b then Fresh else Of i)
    by_name true = fresh_within (own_names variables (Action.New to next))
    by_name false = of_below (own_names variables (Action.New to next)) i below
own_sources variables (Action.Return answer) exit i below = of_below (own_names variables (Action.Return answer)) i below

-- ---- the situations

pub some_is : {X : Type 0} (a b : X) → Some a ≡ Some b → a ≡ b
some_is a b e = ap (λ o. unwrap_or o a) e

pub no_some : {X : Type 0} (a : X) → None ≡ Some a → ⊥
no_some a e = true≢false (ap is_none e)

pub comes_from_names : (h : Header) (S : Situation) (s : Stepping) → step_of S ≡ Some s → ComesFromNames (frame h S) (names_in s)
comes_from_names h Situation.Node s e = absurd (no_some s e)
comes_from_names h (Situation.Names variables) s e = absurd (no_some s e)
comes_from_names h (Situation.Own t) s e = absurd (no_some s e)
comes_from_names h (Situation.Step t) s e = subst (λ v. ComesFromNames (frame h (Situation.Step t)) (names_in v)) (some_is _ s e) (λ i n below is. own_sources t.variables t.action.now (is_yes t.exit) i below n is)
comes_from_names h (Situation.Write t) s e = subst (λ v. ComesFromNames (frame h (Situation.Write t)) (names_in v)) (some_is _ s e) (λ i n below is. of_below (frame h (Situation.Write t)).names i below n is)
comes_from_names h (Situation.Effect t) s e = subst (λ v. ComesFromNames (frame h (Situation.Effect t)) (names_in v)) (some_is _ s e) (λ i n below is. of_below (frame h (Situation.Effect t)).names i below n is)
