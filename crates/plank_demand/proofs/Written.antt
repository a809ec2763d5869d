-- The obligations of writes, by the goals that some write reaches.
use Rattle.std.specs.Prelude.{◌≡◌, ◌↔◌, ℕ, Bool, true, List, [], ◌∷◌, Option, Some, None, option_map}
use Rattle.std.proofs.Common.{refl, sym, ◌∙◌, ap, subst}
use Rattle.std.proofs.lemmas.Option.{none-some}
use Rattle.plank_prog.specs.declared.methods.MethodKind.{MethodKind}
use Rattle.plank_prog.specs.declared.headers.Header.{Header}
use Rattle.plank_pic.specs.declared.literals.Exit.{Exit}
use Rattle.plank_pic.specs.Frames.{Frame}
use Rattle.plank_pic.specs.Pictures.{Picture}
use Rattle.plank_pic.specs.Steps.{Change}
use Rattle.plank_pic.specs.Blocks.{change_of}
use Rattle.plank_fact.specs.Outlines.{Outline, Point}
use Rattle.plank_fact.specs.OwnSteps.{own_frame, turn_at, IsWriteStep}
use Rattle.plank_fact.specs.Writes.{SomeWrite, moves, is_apart, turns_wrongly}
use Rattle.plank_query.specs.declared.turns.OwnTurn.{OwnTurn}
use Rattle.plank_query.specs.declared.situations.Situation.{Situation}
use Rattle.plank_query.specs.declared.predicates.Claim.{Claim}
use Rattle.plank_query.specs.declared.goals.Goal.{Goal}
use Rattle.plank_query.specs.Situations.{turn_of_own, frame, names}
use Rattle.plank_query.specs.Goals.{goal_holds}
use Rattle.plank_query.specs.Places.{IsOwnTurnAt}
use Rattle.plank_query.proofs.Placed.{write_situated}
use Rattle.plank_goals.specs.Wrongs.{HoldsOne, SayOfWrites}
use Rattle.plank_goals.proofs.Gathered.{only_one, one_in}
use Rattle.plank_goals.proofs.Named.{written_so}
use Rattle.plank_demand.specs.Asked.{SayOf, IsOneReached}
use Rattle.plank_demand.proofs.Own.{frame_is, turn_is, write_reached, reached_write}

-- what goals look for in the two pictures of a write
abbrev pub Sought : (O : Outline) → OwnTurn → List Goal → Change → Picture → Picture → Type 0
Sought O t goals c before after = HoldsOne O.header (Situation.Write t) before after goals

module _ (O : Outline) (x : Point O.methods) (t : OwnTurn) (at : IsOwnTurnAt x Exit.Yes t) (goals : List Goal) where
  abbrev pub IsSought : Type 0
  IsSought = SomeWrite O x (Sought O t goals)

  -- ---- by the answers

  some_change : (o : Option Change) → (option_map (λ (c : Change). c.at) o ≡ None → ⊥) → (c : Change) × (o ≡ Some c)
  some_change None there = absurd (there refl)
  some_change (Some c) there = (c, refl)

  module _ (claims : List Claim) (says : SayOf O x claims) where
    pub reached_sought : (option_map (λ (c : Change). c.at) (change_of (turn_of_own t)) ≡ None → ⊥) → IsOneReached O.header (Situation.Write t) claims goals → IsSought
    reached_sought there w =
        let c = some_change (change_of (turn_of_own t)) there in
        let v = write_reached O x t at claims says w.goal w.reached in
        record {
          change = c.0;
          writes = ap change_of (sym (turn_is O x t at)) ∙ c.1;
          before = v.before;
          after = v.after;
          step = v.step;
          wrong = record { goal = w.goal; asked = w.asked; holds = v.holds };
        }

    pub sought_reached : IsSought → IsOneReached O.header (Situation.Write t) claims goals
    sought_reached w = record {
      goal = w.wrong.goal;
      asked = w.wrong.asked;
      reached = reached_write O x t at claims says w.wrong.goal (record { before = w.before; after = w.after; step = w.step; holds = w.wrong.holds });
    }

  pub none_sought : option_map (λ (c : Change). c.at) (change_of (turn_of_own t)) ≡ None → IsSought → ⊥
  none_sought none w = none-some w.change.at (sym none ∙ ap (option_map (λ (c : Change). c.at)) (ap change_of (turn_is O x t at) ∙ w.writes))

  -- ---- by what the goals say together

  module _ (IsWrong : Frame → Change → Picture → Picture → Type 0) (say : SayOfWrites O.header (names (Situation.Write t)) goals IsWrong) where
    say_here : (c : Change) (B A : Picture) → change_of (turn_at O x Exit.Yes) ≡ Some c → IsWriteStep O x B A → Sought O t goals c B A ↔ IsWrong (own_frame O x) c B A
    say_here c B A writes step =
        let s = write_situated O x t at B A step in
        subst (λ F. Sought O t goals c B A ↔ IsWrong F c B A) (frame_is O x t at) (say (Situation.Write t) c B A (ap change_of (turn_is O x t at) ∙ writes) refl s.lawful s.step.step.possible)

    pub sought_wrong : IsSought → SomeWrite O x (IsWrong (own_frame O x))
    sought_wrong w = record { change = w.change; writes = w.writes; before = w.before; after = w.after; step = w.step; wrong = (say_here w.change w.before w.after w.writes w.step).0 w.wrong }

    pub wrong_sought : SomeWrite O x (IsWrong (own_frame O x)) → IsSought
    wrong_sought w = record { change = w.change; writes = w.writes; before = w.before; after = w.after; step = w.step; wrong = (say_here w.change w.before w.after w.writes w.step).1 w.wrong }

    pub sought_so : (b : Bool) → (b ≡ true) ↔ IsSought → (b ≡ true) ↔ SomeWrite O x (IsWrong (own_frame O x))
    sought_so b so = ((λ e. sought_wrong (so.0 e)), (λ w. so.1 (wrong_sought w)))

-- ---- footprint and change: one goal each

module _ (h : Header) (n : ℕ) where
  holds_it : (S : Situation) (B A : Picture) (g : Goal) → HoldsOne h S B A (g ∷ []) → goal_holds h S B A g ≡ true
  holds_it S B A g w = subst (λ k. goal_holds h S B A k ≡ true) (sym (only_one g w.goal w.asked)) w.holds

  it_holds : (S : Situation) (B A : Picture) (g : Goal) → goal_holds h S B A g ≡ true → HoldsOne h S B A (g ∷ [])
  it_holds S B A g e = record { goal = g; asked = one_in g; holds = e }

  pub apart_said : SayOfWrites h n (Goal.MovesApart ∷ []) (λ F c B A. is_apart (moves F c B) ≡ true)
  apart_said S c B A writes count lawful possible = (
    (λ w. sym (written_so S c (λ d. is_apart (moves (frame h S) d B)) writes) ∙ holds_it S B A Goal.MovesApart w),
    (λ e. it_holds S B A Goal.MovesApart (written_so S c (λ d. is_apart (moves (frame h S) d B)) writes ∙ e)),
  )

  pub turns_said : (kind : MethodKind) → SayOfWrites h n (Goal.TurnsWrongly kind ∷ []) (λ F c B A. turns_wrongly kind B (moves F c B) ≡ true)
  turns_said kind S c B A writes count lawful possible = (
    (λ w. sym (written_so S c (λ d. turns_wrongly kind B (moves (frame h S) d B)) writes) ∙ holds_it S B A (Goal.TurnsWrongly kind) w),
    (λ e. it_holds S B A (Goal.TurnsWrongly kind) (written_so S c (λ d. turns_wrongly kind B (moves (frame h S) d B)) writes ∙ e)),
  )
