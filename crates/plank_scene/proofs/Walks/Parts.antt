-- The nodes that a walk visits from x on: passed by names, inside an entered chain, or beyond where it leaves.
use Rattle.std.proofs.Common.{◌≡◌, ◌⊎◌, ℕ, Bool, true, Option, Some, None, refl, sym, ◌∙◌, ap, subst, inl, inr}
use Rattle.std.proofs.lemmas.Option.{none-some, same_Some}
use Rattle.plank_base.specs.Paths.{Path, here, onward, EndsAt, NeverEnds, Extends, MeetsBeyond, off, after}
use Rattle.plank_base.proofs.Paths.{one_successor, end_or_successor, append, wider, off-extends}
use Rattle.plank_pic.specs.declared.parts.Place.{Place}
use Rattle.plank_pic.specs.declared.parts.Target.{Target}
use Rattle.plank_pic.specs.declared.parts.Outcome.{Outcome}
use Rattle.plank_scene.proofs.Walks.Passing.{move_of, final, is_chained, move, Comes}

-- f: the walk; x: the written node; fast: shared frozen nodes but x; along: the walk at those; N: what names name;
-- A: where pointers that leave lead; Z: the stop nodes of the slots
pub record Setting : Type 0 where
  pub f : ℕ → Option ℕ
  pub x : ℕ
  pub fast : ℕ → Bool
  pub along : ℕ → Option ℕ
  pub N : ℕ → ℕ
  pub A : Place → ℕ
  pub Z : ℕ → ℕ
  pub to : ℕ → Target
  pub start : ℕ

pub record IsSetting (s : Setting) : Type 0 where
  pub inside : Extends s.along (off s.f s.x)
  pub fast_along : (a m : ℕ) → s.along a ≡ Some m → s.fast a ≡ true
  pub at : s.N s.start ≡ s.x

-- what a target at a name says of the walk
abbrev pub Right : Setting → ℕ → Target → Type 0
Right s i Target.Ends = s.f (s.N i) ≡ None
Right s i (Target.To j) = s.f (s.N i) ≡ Some (s.N j)
Right s i (Target.Out p) = s.f (s.N i) ≡ Some (s.A p)
Right s i (Target.Jumps q) = (w : ℕ) × (s.f (s.N i) ≡ Some w) × Path s.along w (s.N q)
Right s i (Target.Stops y q k) = (w : ℕ) × (s.f (s.N i) ≡ Some w) × Path s.along w (s.Z k) × (s.f (s.Z k) ≡ None) × (s.fast (s.Z k) ≡ true)

abbrev pub Passed : Setting → ℕ → Type 0
Passed s b = (a : ℕ) × Path (move s.to) s.start a × (b ≡ s.N a)

-- the end or the stop node of the chain that is entered at a
abbrev pub EndOf : Setting → ℕ → ℕ → Type 0
EndOf s a e = ((q : ℕ) × (s.to a ≡ Target.Jumps q) × (e ≡ s.N q)) ⊎ ((y q k : ℕ) × (s.to a ≡ Target.Stops y q k) × (e ≡ s.Z k))

-- b lies on a chain that is entered at a: the walk comes to it from there, and goes on to the chain's end, or stops
abbrev pub OnChain : Setting → ℕ → ℕ → Type 0
OnChain s a b = ((e m : ℕ) × EndOf s a e × (s.along b ≡ Some m) × Path s.f m e) ⊎ ((y q k : ℕ) × (s.to a ≡ Target.Stops y q k) × (b ≡ s.Z k))

-- a chain is entered on the part, and b is shared and frozen, and not x
abbrev pub Entered : Setting → ℕ → Type 0
Entered s b = (a : ℕ) × Path (move s.to) s.start a × (is_chained (s.to a) ≡ true) × (s.fast b ≡ true) × Path s.f (s.N a) b × OnChain s a b

module _ (s : Setting) (is : IsSetting s) (right : (i : ℕ) → Path (move s.to) s.start i → Path s.f s.x (s.N i) → Right s i (s.to i)) where
  along_f : Extends s.along s.f
  along_f a m e = off-extends s.f s.x a m (is.inside a m e)

  right_at : (i : ℕ) (t : Target) → s.to i ≡ t → Path (move s.to) s.start i → Path s.f s.x (s.N i) → Right s i t
  right_at i t e p q = subst (λ u. Right s i u) e (right i p q)

  -- ---- passed nodes are visited

  step_visited : (i : ℕ) (t : Target) (j : ℕ) → move_of t ≡ Some j → Right s i t → Path s.f s.x (s.N i) → Path s.f s.x (s.N j)
  step_visited i Target.Ends j e r p = absurd (none-some j e)
  step_visited i (Target.To m) j e r p = append p (onward (r ∙ ap (λ v. Some (s.N v)) (same_Some m j e)) here)
  step_visited i (Target.Out x) j e r p = absurd (none-some j e)
  step_visited i (Target.Stops y q k) j e r p = absurd (none-some j e)
  step_visited i (Target.Jumps q) j e r p =
      subst (λ v. Path s.f s.x (s.N v)) (same_Some q j e) (append p (onward r.1 (wider along_f r.2)))

  walk_part : (i a : ℕ) → Path (move s.to) s.start i → Path s.f s.x (s.N i) → Path (move s.to) i a → Path s.f s.x (s.N a)
  walk_part i a p q here = q
  walk_part i a p q (onward {m} e r) =
      walk_part m a (append p (onward e here)) (step_visited i (s.to i) m e (right i p q) q) r

  pub passed_visited : (a : ℕ) → Path (move s.to) s.start a → Path s.f s.x (s.N a)
  passed_visited a p = walk_part s.start a here (subst (λ v. Path s.f s.x v) (sym is.at) here) p

  pub right_on : (a : ℕ) (t : Target) → s.to a ≡ t → Path (move s.to) s.start a → Right s a t
  right_on a t e p = right_at a t e p (passed_visited a p)

  -- ---- all that is visited from x on is covered

  -- inside a chain that is entered: on from it along shared frozen nodes to the chain's end or stop
  abbrev Inside : ℕ → Type 0
  Inside b = (a e m : ℕ) × Path (move s.to) s.start a × EndOf s a e × (s.along b ≡ Some m) × Path s.along m e × Path s.f (s.N a) b

  abbrev Stopped : ℕ → Type 0
  Stopped b = (a y q k : ℕ) × Path (move s.to) s.start a × (s.to a ≡ Target.Stops y q k) × (b ≡ s.Z k) × Path s.f (s.N a) b

  abbrev Beyond : (ℕ → Option ℕ) → ℕ → Type 0
  Beyond p b = (a : ℕ) × (x : Place) × Path (move s.to) s.start a × (s.to a ≡ Target.Out x) × Path p (s.A x) b

  abbrev Near : ℕ → Type 0
  Near b = Passed s b ⊎ (Inside b ⊎ Stopped b)

  abbrev Covered : (ℕ → Option ℕ) → ℕ → Type 0
  Covered p b = Near b ⊎ Beyond p b

  -- at the beginning of what is left of a chain
  enter_jump : (a q w : ℕ) → Path (move s.to) s.start a → s.to a ≡ Target.Jumps q → Path s.f (s.N a) w → Path s.along w (s.N q) → Near w
  enter_jump a q w p e from here = inl (q, append p (onward (ap move_of e) here), refl)
  enter_jump a q w p e from (onward {m} d r) = inr (inl (a, s.N q, m, p, inl (q, e, refl), d, r, from))

  enter_stop : (a y q k w : ℕ) → Path (move s.to) s.start a → s.to a ≡ Target.Stops y q k → Path s.f (s.N a) w → Path s.along w (s.Z k) → Near w
  enter_stop a y q k w p e from here = inr (inr (a, y, q, k, p, e, refl, from))
  enter_stop a y q k w p e from (onward {m} d r) = inr (inl (a, s.Z k, m, p, inr (y, q, k, e, refl), d, r, from))

  from_passed : (p : ℕ → Option ℕ) (a c : ℕ) (t : Target) → s.to a ≡ t → Path (move s.to) s.start a → s.f (s.N a) ≡ Some c → Right s a t → Covered p c
  from_passed p a c Target.Ends e r d right = absurd (end_or_successor right d)
  from_passed p a c (Target.To j) e r d right = inl (inl (j, append r (onward (ap move_of e) here), one_successor d right))
  from_passed p a c (Target.Out x) e r d right = inr (a, x, r, e, subst (λ v. Path p (s.A x) v) (one_successor right d) here)
  from_passed p a c (Target.Stops y q k) e r d right =
      inl (enter_stop a y q k c r e (onward d here) (subst (λ v. Path s.along v (s.Z k)) (one_successor right.1 d) right.2))
  from_passed p a c (Target.Jumps q) e r d right =
      inl (enter_jump a q c r e (onward d here) (subst (λ v. Path s.along v (s.N q)) (one_successor right.1 d) right.2))

  from_near : (p : ℕ → Option ℕ) (b c : ℕ) → s.f b ≡ Some c → Near b → Covered p c
  from_near p b c d = elim [
    | inl w ↦ from_passed p w.0 c (s.to w.0) refl w.1 (subst (λ v. s.f v ≡ Some c) w.2 d) (right_on w.0 (s.to w.0) refl w.1)
    | inr (inl w) ↦ inl (subst Near (one_successor (along_f b w.2 w.5) d) (inside_next w.0 w.1 w.2 w.3 w.4 (append w.7 (onward (along_f b w.2 w.5) here)) w.6))
    | inr (inr w) ↦
        let r = right_on w.0 (Target.Stops w.1 w.2 w.3) w.5 w.4 in
        absurd (end_or_successor r.3 (subst (λ v. s.f v ≡ Some c) w.6 d))
  ]
    where
      inside_next : (a e m : ℕ) → Path (move s.to) s.start a → EndOf s a e → Path s.f (s.N a) m → Path s.along m e → Near m
      inside_next a e m p which from r = elim which [
        | inl v ↦ enter_jump a v.0 m p v.1 from (subst (λ z. Path s.along m z) v.2 r)
        | inr v ↦ enter_stop a v.0 v.1 v.2 m p v.3 from (subst (λ z. Path s.along m z) v.4 r)
      ]

  spread : (p : ℕ → Option ℕ) → Extends p s.f → (a b : ℕ) → Covered p a → Path p a b → Covered p b
  spread p le a b cov here = cov
  spread p le a b cov (onward {m} e r) =
      spread p le m b (elim cov [ inl near ↦ from_near p a m (le a m e) near | inr w ↦ inr (w.0, w.1, w.2, w.3, append w.4 (onward e here)) ]) r

  pub cover : (b : ℕ) → Path s.f s.x b → Covered s.f b
  cover b p = spread s.f (λ a m e. e) s.x b (inl (inl (s.start, here, sym is.at))) p

  -- the same beyond the last visit of x
  pub cover_beyond : (b : ℕ) → MeetsBeyond s.f s.x b → Covered (off s.f s.x) b
  cover_beyond b w =
      spread (off s.f s.x) (off-extends s.f s.x) w.0 b
      (from_near (off s.f s.x) s.x w.0 w.1 (inl (s.start, here, sym is.at))) w.2

  -- a node that is near is passed, or shared and frozen in a text where a chain is entered
  pub near_entered : (b : ℕ) → Near b → Passed s b ⊎ Entered s b
  near_entered b = elim [
    | inl w ↦ inl w
    | inr (inl w) ↦ inr (w.0, w.3, chained w.0 w.1 w.4, is.fast_along b w.2 w.5, w.7, inl (w.1, w.2, w.4, w.5, wider along_f w.6))
    | inr (inr w) ↦
        let r = right_on w.0 (Target.Stops w.1 w.2 w.3) w.5 w.4 in
        inr (w.0, w.4, ap is_chained w.5, subst (λ v. s.fast v ≡ true) (sym w.6) r.4, w.7, inr (w.1, w.2, w.3, w.5, w.6))
  ]
    where
      chained : (a e : ℕ) → EndOf s a e → is_chained (s.to a) ≡ true
      chained a e which = elim which [ inl v ↦ ap is_chained v.1 | inr v ↦ ap is_chained v.3 ]

  -- ---- what the outcome says of the walk

  abbrev pub Good : Outcome → Type 0
  Good (Outcome.EndsAt m) = EndsAt s.f s.x (s.N m)
  Good (Outcome.StopsIn y q k) = EndsAt s.f s.x (s.Z k)
  Good (Outcome.Leaves p) = Path s.f s.x (s.A p)
  Good Outcome.Cycles = NeverEnds s.f s.x

  good_final : (m : ℕ) (t : Target) (o : Outcome) → s.to m ≡ t → Path (move s.to) s.start m → final m t ≡ Some o → Good o
  good_final m Target.Ends o e p d = subst Good (same_Some _ o d) (passed_visited m p, right_on m Target.Ends e p)
  good_final m (Target.To j) o e p d = absurd (none-some o d)
  good_final m (Target.Out x) o e p d = subst Good (same_Some _ o d) (append (passed_visited m p) (onward (right_on m (Target.Out x) e p) here))
  good_final m (Target.Stops y q k) o e p d =
      let r = right_on m (Target.Stops y q k) e p in
      subst Good (same_Some _ o d) (append (passed_visited m p) (onward r.1 (wider along_f r.2)), r.3)
  good_final m (Target.Jumps q) o e p d = absurd (none-some o d)

  -- a name at which the walk ends is a name from which nothing leads on
  ends_final : (m : ℕ) (t : Target) → Right s m t → s.f (s.N m) ≡ None → move_of t ≡ None
  ends_final m Target.Ends r e = refl
  ends_final m (Target.To j) r e = absurd (end_or_successor e r)
  ends_final m (Target.Out x) r e = refl
  ends_final m (Target.Stops y q k) r e = refl
  ends_final m (Target.Jumps q) r e = absurd (end_or_successor e r.1)

  good_cycle : NeverEnds (move s.to) s.start → NeverEnds s.f s.x
  good_cycle never b p e = elim (cover b p) [
    | inl (inl w) ↦ never w.0 w.1 (ends_final w.0 (s.to w.0) (right_on w.0 (s.to w.0) refl w.1) (subst (λ v. s.f v ≡ None) w.2 e))
    | inl (inr (inl w)) ↦ end_or_successor e (along_f b w.2 w.5)
    | inl (inr (inr w)) ↦ never w.0 w.4 (ap move_of w.5)
    | inr w ↦ never w.0 w.2 (ap move_of w.3)
  ]

  pub good : (n : ℕ) (o : Outcome) → Comes s.to n s.start o → ((c : ℕ) → after (move s.to) n s.start ≡ Some c → NeverEnds (move s.to) s.start) → Good o
  good n o came endless = elim came [
    | inl w ↦ good_final w.0 (s.to w.0) o refl w.1 w.2
    | inr w ↦ subst Good (sym w.0) (good_cycle (endless w.1.0 w.1.1))
  ]
