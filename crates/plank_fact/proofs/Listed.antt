-- Where every obligation of the program's list holds, none of a location fails there: each is in the list.
use Rattle.std.specs.Prelude.{◌≡◌, ℕ, zero, suc, ◌+◌, ◌==◌, true, false, List, [], ◌∷◌, ◌++◌, map, length, slice_get, Some, option_map}
use Rattle.std.proofs.Common.{refl, sym, ◌∙◌, ap, subst, arith}
use Rattle.std.proofs.lemmas.Bool.{ne_eqb, cond-false}
use Rattle.std.proofs.lemmas.Option.{none-some, same_Some, slice_get-map}
use Rattle.plank_base.specs.declared.obligations.Kind.{Kind}
use Rattle.plank_base.specs.declared.obligations.Obligation.{Obligation}
use Rattle.plank_prog.specs.declared.blocks.Write.{Write}
use Rattle.plank_prog.specs.declared.blocks.Block.{Block}
use Rattle.plank_prog.specs.declared.methods.Action.{Action}
use Rattle.plank_prog.specs.declared.methods.Location.{Location}
use Rattle.plank_prog.specs.declared.methods.Method.{Method}
use Rattle.plank_prog.specs.declared.methods.MethodKind.{MethodKind}
use Rattle.plank_pic.specs.Steps.{Change}
use Rattle.plank_pic.specs.Blocks.{change_by, change_of}
use Rattle.plank_pic.specs.Calls.{own_turn}
use Rattle.plank_fact.specs.Outlines.{Outline, Point}
use Rattle.plank_fact.specs.ObligationList.{write_kinds, kinds_of, obligation_at, of_locations, of_methods, obligations}
use Rattle.plank_fact.specs.Obligations.{FailsThere, AllHold}

abbrev IsIn : {A : Type 0} → A → List A → Type 0
IsIn x xs = (n : ℕ) × (slice_get xs n ≡ Some x)

in_left : {A : Type 0} (x : A) (xs ys : List A) → IsIn x xs → IsIn x (xs ++ ys)
in_left {A} x xs ys is = (is.0, found xs is.0 is.1)
  where
    found : (zs : List A) (n : ℕ) → slice_get zs n ≡ Some x → slice_get (zs ++ ys) n ≡ Some x
    found [] n e = absurd (none-some x e)
    found (z ∷ zs) zero e = e
    found (z ∷ zs) (suc n) e = found zs n e

in_right : {A : Type 0} (x : A) (xs ys : List A) → IsIn x ys → IsIn x (xs ++ ys)
in_right x [] ys is = is
in_right x (y ∷ xs) ys is = let w = in_right x xs ys is in (suc w.0, w.1)

in_map : {A B : Type 0} (f : A → B) (x : A) (xs : List A) → IsIn x xs → IsIn (f x) (map f xs)
in_map f x xs is = (is.0, slice_get-map f xs is.0 ∙ ap (option_map f) is.1)

-- the obligations of a location are among those of its method, and these among the program's
in_locations : (k : MethodKind) (m from : ℕ) (ls : List Location) (i l : ℕ) (x : Location) (kind : Kind) → slice_get ls i ≡ Some x → l ≡ from + i → IsIn kind (kinds_of k x.action) → IsIn (obligation_at m l x kind) (of_locations k m from ls)
in_locations k m from [] i l x kind at same is = absurd (none-some x at)
in_locations k m from (y ∷ ys) zero l x kind at same is =
    let here : l ≡ from = omega (arith, same) in
    in_left _ (map (obligation_at m from y) (kinds_of k y.action)) (of_locations k m (suc from) ys)
    (subst (λ n. IsIn (obligation_at m n x kind) (map (obligation_at m from y) (kinds_of k y.action))) (sym here)
    (subst (λ z. IsIn (obligation_at m from z kind) (map (obligation_at m from y) (kinds_of k y.action))) (same_Some y x at)
    (in_map (obligation_at m from y) kind (kinds_of k y.action) (subst (λ z. IsIn kind (kinds_of k z.action)) (sym (same_Some y x at)) is))))
in_locations k m from (y ∷ ys) (suc i) l x kind at same is =
    in_right _ (map (obligation_at m from y) (kinds_of k y.action)) (of_locations k m (suc from) ys) (in_locations k m (suc from) ys i l x kind at (omega (arith, same)) is)

in_methods : (from : ℕ) (ms : List Method) (i m : ℕ) (method : Method) (o : Obligation) → slice_get ms i ≡ Some method → m ≡ from + i → IsIn o (of_locations method.kind m 0 method.locations) → IsIn o (of_methods from ms)
in_methods from [] i m method o at same is = absurd (none-some method at)
in_methods from (y ∷ ys) zero m method o at same is =
    let here : m ≡ from = omega (arith, same) in
    in_left o (of_locations y.kind from 0 y.locations) (of_methods (suc from) ys)
    (subst (λ (z : Method). IsIn o (of_locations z.kind from 0 z.locations)) (sym (same_Some y method at)) (subst (λ k. IsIn o (of_locations method.kind k 0 method.locations)) here is))
in_methods from (y ∷ ys) (suc i) m method o at same is =
    in_right o (of_locations y.kind from 0 y.locations) (of_methods (suc from) ys) (in_methods (suc from) ys i m method o at (omega (arith, same)) is)

-- ---- which kinds a location has

some_writes : (k : MethodKind) (b : Block) → (length b.writes == 0) ≡ false → (kind : Kind) → IsIn kind write_kinds → IsIn kind (kinds_of k (Action.Block b))
some_writes k b some kind is = (suc is.0, ap (λ ks. slice_get ks is.0) (cond-false (length b.writes == 0) [] write_kinds some) ∙ is.1)

writes_kind : (k : MethodKind) (V : ℕ) (a : Action) (c : Change) → change_of (own_turn V a true) ≡ Some c → (kind : Kind) → IsIn kind write_kinds → IsIn kind (kinds_of k a)
writes_kind k V (Action.Block b) c e kind is = by_writes b.writes refl e
  where
    by_writes : (ws : List Write) → b.writes ≡ ws → change_of (own_turn V (Action.Block b) true) ≡ Some c → IsIn kind (kinds_of k (Action.Block b))
    by_writes [] none e = absurd (none-some c (sym (ap (λ vs. change_by (own_turn V (Action.Block b) true) vs) none) ∙ e))
    by_writes (w ∷ ws) some e = some_writes k b (ap (λ (vs : List Write). length vs == 0) some ∙ ne_eqb (suc (length ws)) 0 (λ d. absurd (omega (arith, d)))) kind is
writes_kind k V (Action.Copy to from next) c e kind is = absurd (none-some c e)
writes_kind k V (Action.New to next) c e kind is = absurd (none-some c e)
writes_kind k V (Action.Return answer) c e kind is = absurd (none-some c e)

module _ (O : Outline) where
  -- a location has an obligation of each kind that fails there
  kind_there : (kind : Kind) (x : Point O.methods) → FailsThere kind O x → IsIn kind (kinds_of x.method.kind x.location.action)
  kind_there Kind.Start x fails = absurd fails
  kind_there Kind.Edges x fails = absurd fails
  kind_there Kind.Null x fails = subst (λ a. IsIn Kind.Null (kinds_of x.method.kind a)) (sym fails.here) (0, refl)
  kind_there Kind.Target x fails = writes_kind x.method.kind (length x.method.variables) x.location.action fails.change fails.writes Kind.Target (0, refl)
  kind_there Kind.Publish x fails = writes_kind x.method.kind (length x.method.variables) x.location.action fails.change fails.writes Kind.Publish (1, refl)
  kind_there Kind.Keep x fails = writes_kind x.method.kind (length x.method.variables) x.location.action fails.change fails.writes Kind.Keep (2, refl)
  kind_there Kind.Order x fails = writes_kind x.method.kind (length x.method.variables) x.location.action fails.change fails.writes Kind.Order (3, refl)
  kind_there Kind.Footprint x fails = writes_kind x.method.kind (length x.method.variables) x.location.action fails.change fails.writes Kind.Footprint (4, refl)
  kind_there Kind.Change x fails = writes_kind x.method.kind (length x.method.variables) x.location.action fails.change fails.writes Kind.Change (5, refl)
  kind_there Kind.Answer x fails =
      subst (λ a. IsIn Kind.Answer (kinds_of x.method.kind a)) (sym fails.returns) (subst (λ k. IsIn Kind.Answer (kinds_of k (Action.Return fails.answer))) (sym fails.of_method) (0, refl))

  listed : (x : Point O.methods) (kind : Kind) → IsIn kind (kinds_of x.method.kind x.location.action) → IsIn (obligation_at x.m x.l x.location kind) (obligations O.methods)
  listed x kind is =
      let w = in_methods 0 O.methods x.m x.m x.method (obligation_at x.m x.l x.location kind) x.called (omega arith) (in_locations x.method.kind x.m 0 x.method.locations x.l x.l x.location kind x.there (omega arith) is) in
      (suc (suc w.0), w.1)

  -- the obligation of a location that fails there is in the list, and fails as one of it
  pub none_fails : AllHold O → (kind : Kind) (x : Point O.methods) → FailsThere kind O x → ⊥
  none_fails hold Kind.Start x fails = fails
  none_fails hold Kind.Edges x fails = fails
  none_fails hold Kind.Null x fails =
      let w = listed x Kind.Null (kind_there Kind.Null x fails) in
      hold w.0 (obligation_at x.m x.l x.location Kind.Null) w.1 (record { at = x; same_method = refl; same_location = refl; fails = fails })
  none_fails hold Kind.Target x fails =
      let w = listed x Kind.Target (kind_there Kind.Target x fails) in
      hold w.0 (obligation_at x.m x.l x.location Kind.Target) w.1 (record { at = x; same_method = refl; same_location = refl; fails = fails })
  none_fails hold Kind.Publish x fails =
      let w = listed x Kind.Publish (kind_there Kind.Publish x fails) in
      hold w.0 (obligation_at x.m x.l x.location Kind.Publish) w.1 (record { at = x; same_method = refl; same_location = refl; fails = fails })
  none_fails hold Kind.Keep x fails =
      let w = listed x Kind.Keep (kind_there Kind.Keep x fails) in
      hold w.0 (obligation_at x.m x.l x.location Kind.Keep) w.1 (record { at = x; same_method = refl; same_location = refl; fails = fails })
  none_fails hold Kind.Order x fails =
      let w = listed x Kind.Order (kind_there Kind.Order x fails) in
      hold w.0 (obligation_at x.m x.l x.location Kind.Order) w.1 (record { at = x; same_method = refl; same_location = refl; fails = fails })
  none_fails hold Kind.Footprint x fails =
      let w = listed x Kind.Footprint (kind_there Kind.Footprint x fails) in
      hold w.0 (obligation_at x.m x.l x.location Kind.Footprint) w.1 (record { at = x; same_method = refl; same_location = refl; fails = fails })
  none_fails hold Kind.Change x fails =
      let w = listed x Kind.Change (kind_there Kind.Change x fails) in
      hold w.0 (obligation_at x.m x.l x.location Kind.Change) w.1 (record { at = x; same_method = refl; same_location = refl; fails = fails })
  none_fails hold Kind.Answer x fails =
      let w = listed x Kind.Answer (kind_there Kind.Answer x fails) in
      hold w.0 (obligation_at x.m x.l x.location Kind.Answer) w.1 (record { at = x; same_method = refl; same_location = refl; fails = fails })
