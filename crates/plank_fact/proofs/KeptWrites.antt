-- Where all obligations hold, each write step of a location keeps what pictures ask of a write, for the generic key.
use Rattle.std.specs.Prelude.{◌≡◌, ℕ, suc, ◌+◌, ◌<◌, Bool, true, false, not, ◌&&◌, List, [], ◌∷◌, length, Some, None, unwrap_or, if◌then◌else◌}
use Rattle.std.specs.Bool.{beq}
use Rattle.std.specs.List.{list_all}
use Rattle.std.proofs.Common.{refl, sym, ◌∙◌, ap, subst, inl, inr, arith}
use Rattle.std.proofs.lemmas.Bool.{and_parts, or_left, not-true, true_from_ne_false, cases_lt, lt-ltb, le-ltb}
use Rattle.std.proofs.lemmas.Option.{same_Some, none-some}
use Rattle.plank_base.specs.declared.obligations.Kind.{Kind}
use Rattle.plank_prog.specs.declared.blocks.Reference.{Reference}
use Rattle.plank_prog.specs.declared.blocks.Write.{Write}
use Rattle.plank_prog.specs.declared.methods.Action.{Action}
use Rattle.plank_prog.specs.Blocks.{written_node}
use Rattle.plank_pic.specs.declared.literals.Exit.{Exit}
use Rattle.plank_pic.specs.declared.parts.KeyName.{KeyName}
use Rattle.plank_pic.specs.declared.parts.Part.{Part}
use Rattle.plank_pic.specs.Frames.{Frame}
use Rattle.plank_pic.specs.Pictures.{Picture, place}
use Rattle.plank_pic.specs.Lawful.{node_keeps, keep_holds, edge_is_ordered}
use Rattle.plank_pic.specs.Steps.{Change}
use Rattle.plank_pic.specs.Blocks.{name, is_null, all_hold, bind_is_read, change, change_by, change_of, runs}
use Rattle.plank_pic.specs.Calls.{own_name, own_names, own_turn}
use Rattle.plank_pic.specs.Keeps.{IsKeptWrite}
use Rattle.plank_fact.specs.Outlines.{Outline, Point}
use Rattle.plank_fact.specs.OwnSteps.{own_frame, turn_at, IsWriteStep}
use Rattle.plank_fact.specs.Writes.{is_apart}
use Rattle.plank_fact.specs.Obligations.{AllHold}
use Rattle.plank_fact.proofs.Listed.{none_fails}

-- ---- the written node has a name

own_name_below : (V more : ℕ) (q : Reference) → unwrap_or (own_name V q) 0 < suc (V + more)
own_name_below V more Reference.Root = omega arith
own_name_below V more (Reference.Variable v) =
    elim (cases_lt v V) [
      | inl less ↦ subst (λ b. unwrap_or (if b then Some (suc v) else None) 0 < suc (V + more)) (sym (lt-ltb v V less)) (let l : v < V = less in omega arith)
      | inr more_than ↦ subst (λ b. unwrap_or (if b then Some (suc v) else None) 0 < suc (V + more)) (sym (le-ltb v V more_than)) (omega arith)
    ]

record IsNamed (F : Frame) (B : Picture) (at : ℕ) : Type 0 where
  below : at < F.names
  there : B (Part.Null at) ≡ false

module _ (F : Frame) (V : ℕ) (B : Picture) (c : Change) where
  written_named : (a : Action) → F.names ≡ own_names V a → change_of (own_turn V a true) ≡ Some c → runs F (own_turn V a true) B ≡ true → IsNamed F B c.at
  written_named (Action.Block b) size e ran = by_writes b.writes refl e
    where
      by_writes : (ws : List Write) → b.writes ≡ ws → change_of (own_turn V (Action.Block b) true) ≡ Some c → IsNamed F B c.at
      by_writes [] none e = absurd (none-some c (sym (ap (change_by (own_turn V (Action.Block b) true)) none) ∙ e))
      by_writes (w ∷ ws) some e =
          let s = own_turn V (Action.Block b) true in
          let this : change s w ws ≡ c = same_Some (change s w ws) c (sym (ap (change_by s) some) ∙ e) in
          let at : name s (written_node w) ≡ c.at = ap (λ (d : Change). d.at) this in
          let all = (and_parts (all_hold F s B b.tests && list_all (bind_is_read s B) b.binds) (list_all (λ v. not (is_null s B (written_node v))) b.writes) ran).1 in
          let here = (and_parts (not (is_null s B (written_node w))) (list_all (λ v. not (is_null s B (written_node v))) ws) (subst (λ vs. list_all (λ v. not (is_null s B (written_node v))) vs ≡ true) some all)).0 in
          record {
            below = subst (λ n. n < F.names) at (subst (λ n. name s (written_node w) < n) (sym size) (own_name_below V (length b.binds) (written_node w)));
            there = subst (λ n. B (Part.Null n) ≡ false) at (not-true (is_null s B (written_node w)) here);
          }
  written_named (Action.Copy to from next) size e ran = absurd (none-some c e)
  written_named (Action.New to next) size e ran = absurd (none-some c e)
  written_named (Action.Return answer) size e ran = absurd (none-some c e)

itself : (same null : Bool) → beq same (not null) ≡ true → null ≡ false → same ≡ true
itself true null e h = refl
itself false true e h = sym h
itself false false e h = e

-- ---- the law

pub kept_write : (O : Outline) → AllHold O → (x : Point O.methods) (c : Change) → change_of (turn_at O x Exit.Yes) ≡ Some c → (B W : Picture) → IsWriteStep O x B W
    → IsKeptWrite (own_frame O x) c B W KeyName.Any
kept_write O hold x c writes B W step =
    let F = own_frame O x in
    let at = written_named F (length x.method.variables) B c x.location.action refl writes step.step.runs in
    let written : B (Part.Same c.at c.at) ≡ true = itself (B (Part.Same c.at c.at)) (B (Part.Null c.at)) (step.own.picture.lawful.possible.picture.itself c.at at.below) at.there in
    record {
      named = λ i n bi bn. true_from_ne_false (node_keeps F W KeyName.Any i n) (λ e. none_fails O hold Kind.Keep x (record { change = c; writes = writes; before = B; after = W; step = step; wrong = inl (i, n, e) }));
      inside = λ y q v at b enters inner meets n bn. true_from_ne_false (keep_holds F.header (record v { visited = not b }) n) (λ e. none_fails O hold Kind.Keep x (record {
        change = c;
        writes = writes;
        before = B;
        after = W;
        step = step;
        wrong = inr (record { first = y; last = q; enters = enters; view = v; place = at; inner = inner; visited = b; kept = meets; broken = n; there = bn; breaks = e });
      }));
      order = λ f i fits bi. true_from_ne_false (edge_is_ordered F W (place c.at f) i) (λ e. none_fails O hold Kind.Order x (record {
        change = c;
        writes = writes;
        before = B;
        after = W;
        step = step;
        wrong = record { node = c.at; pointer = f; to = i; touched = or_left _ _ written; against = e };
      }));
      footprint = λ apart. none_fails O hold Kind.Footprint x (record { change = c; writes = writes; before = B; after = W; step = step; wrong = ap is_apart apart });
    }
