-- A write at x, seen by the parts from x before and after: what each walk goes on to visit, and where it ends.
use Rattle.std.proofs.Common.{◌≡◌, ◌≢◌, ◌⊎◌, ℕ, Option, Some, None, refl, sym, ◌∙◌, ap, subst, inl, inr}
use Rattle.std.proofs.lemmas.Option.{none-some, same_Some}
use Rattle.plank_base.specs.Paths.{Path, EndsAt, NeverEnds, AgreeOff, off, after}
use Rattle.plank_base.proofs.Paths.{one_successor, end_or_successor, append, wider, off-extends, off-none, off-agree, same_paths, first_visit, no_return, end_stays, one_line, one_end}
use Rattle.plank_pic.specs.declared.parts.Place.{Place}
use Rattle.plank_pic.specs.declared.parts.Target.{Target}
use Rattle.plank_pic.specs.declared.parts.Outcome.{Outcome}
use Rattle.plank_scene.proofs.Walks.Passing.{move_of, final, move, Comes}
use Rattle.plank_scene.proofs.Walks.Parts.{Setting, IsSetting, Right, Passed, Entered, cover_beyond, near_entered}

-- ---- two walks that agree off x

module _ (f g : ℕ → Option ℕ) (x : ℕ) (agree : AgreeOff f g x) where
  pub under : {a b : ℕ} → Path (off f x) a b → Path g a b
  under p = wider (off-extends g x) (same_paths (off-agree f g x agree) p)

  pub still_visited : {root : ℕ} → Path f root x → Path g root x
  still_visited p = elim (first_visit x p) [ inl q ↦ under q | inr w ↦ under w.0 ]

  -- a walk that does not come to x is the same
  pub untouched : {root b : ℕ} → (Path f root x → ⊥) → Path f root b → Path g root b
  untouched away p = elim (first_visit x p) [ inl q ↦ under q | inr w ↦ absurd (away (wider (off-extends f x) w.0)) ]

-- ---- one outcome for one part

-- a name whose target leads outside decides the outcome
pub out_decides : (to : ℕ → Target) (n i : ℕ) (o : Outcome) → Comes to n i o → ((c : ℕ) → after (move to) n i ≡ Some c → NeverEnds (move to) i) → (a : ℕ) (p : Place) → Path (move to) i a → to a ≡ Target.Out p → o ≡ Outcome.Leaves p
out_decides to n i o came endless a p path e = elim came [
  | inl w ↦
      let same : w.0 ≡ a = one_end w.1 (no_move w.0 (to w.0) refl w.2) path (ap move_of e) in
      let there : final w.0 (to w.0) ≡ Some (Outcome.Leaves p) = ap (final w.0) (subst (λ v. to v ≡ Target.Out p) (sym same) e) in
      same_Some o (Outcome.Leaves p) (sym w.2 ∙ there)
  | inr w ↦ absurd (endless w.1.0 w.1.1 a path (ap move_of e))
]
  where
    no_move : (m : ℕ) (t : Target) → to m ≡ t → final m t ≡ Some o → move_of (to m) ≡ None
    no_move m Target.Ends h d = ap move_of h
    no_move m (Target.To j) h d = absurd (none-some o d)
    no_move m (Target.Out x) h d = ap move_of h
    no_move m (Target.Stops y q k) h d = ap move_of h
    no_move m (Target.Jumps q) h d = absurd (none-some o d)

-- where the outcome is another, no name leads outside
pub no_leave : (to : ℕ → Target) (n i : ℕ) (o : Outcome) → Comes to n i o → ((c : ℕ) → after (move to) n i ≡ Some c → NeverEnds (move to) i) → ((p : Place) → o ≡ Outcome.Leaves p → ⊥)
    → (a : ℕ) (p : Place) → Path (move to) i a → to a ≡ Target.Out p → ⊥
no_leave to n i o came endless never a p path out = never p (out_decides to n i o came endless a p path out)

-- ---- what is visited before is visited after, unless it is on the part before

module _ (s : Setting) (is : IsSetting s) (right : (i : ℕ) → Path (move s.to) s.start i → Path s.f s.x (s.N i) → Right s i (s.to i))
    (g : ℕ → Option ℕ) (agree : AgreeOff s.f g s.x) (root : ℕ)
    -- where the part leaves, the other walk comes too
    (leaves : (a : ℕ) (p : Place) → Path (move s.to) s.start a → s.to a ≡ Target.Out p → Path g s.x (s.A p)) where
  pub kept : (b : ℕ) → Path s.f root b → Path g root b ⊎ (Passed s b ⊎ Entered s b)
  kept b p = elim (first_visit s.x p) [
    | inl q ↦ inl (under s.f g s.x agree q)
    | inr w ↦
        let to_x : Path g root s.x = under s.f g s.x agree w.0 in
        elim (no_return s.x w.1) [
          | inl same ↦ inl (subst (λ v. Path g root v) (sym same) to_x)
          | inr beyond ↦ elim (cover_beyond s is right b beyond) [
            | inl near ↦ inr (near_entered s is right b near)
            | inr v ↦ inl (append to_x (append (leaves v.0 v.1 v.2 v.3) (under s.f g s.x agree v.4)))
          ]
        ]
  ]

-- ---- where both leave to one node, both end alike

module _ (f g : ℕ → Option ℕ) (x root a : ℕ) (agree : AgreeOff f g x) (vis : Path f root x) (other : a ≢ x) (pf : Path f x a) (pg : Path g x a) where
  -- on to the node without x
  straight : (f : ℕ → Option ℕ) → Path f x a → (y : ℕ) × (f x ≡ Some y) × Path (off f x) y a
  straight f p = elim (no_return x p) [ inl e ↦ absurd (other e) | inr w ↦ w ]

  pub same_end : (b : ℕ) → EndsAt f root b → (b ≢ x) × EndsAt g root b
  same_end b ends =
      let sf = straight f pf in
      let not_x : b ≢ x = λ e. end_or_successor (subst (λ v. f v ≡ None) e ends.1) sf.1 in
      let end_g : g b ≡ None = sym (agree b not_x) ∙ ends.1 in
      let to_a : Path g root a = append (still_visited f g x agree vis) pg in (
        not_x,
        (
          elim (first_visit x ends.0) [
            | inl q ↦ under f g x agree q
            | inr w ↦ elim (no_return x w.1) [
              | inl e ↦ absurd (not_x e)
              | inr v ↦
                  let q : Path (off f x) sf.0 b = subst (λ u. Path (off f x) u b) (one_successor v.1 sf.1) v.2 in
                  elim (one_line sf.2 q) [
                    | inl r ↦ append to_a (under f g x agree r)
                    | inr r ↦ subst (λ u. Path g root u) (end_stays (off-none f x b ends.1) r) to_a
                  ]
            ]
          ],
          end_g,
        ),
      )
