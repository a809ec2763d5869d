-- What the lists of goals say together.
use Rattle.std.specs.Prelude.{◌≡◌, ◌⊎◌, ◌↔◌, ℕ, List, ◌++◌, length, true}
use Rattle.std.proofs.Common.{sym, subst, inl, inr}
use Rattle.std.proofs.lemmas.List.Elements.{Contains-append_left, Contains-append_right, Contains-append_cases}
use Rattle.plank_prog.specs.declared.headers.Header.{Header}
use Rattle.plank_prog.specs.Headers.{is_lawful_header}
use Rattle.plank_pic.specs.Pictures.{Picture}
use Rattle.plank_fact.specs.Writes.{BreaksKeep, BreaksOrder}
use Rattle.plank_query.specs.declared.situations.Situation.{Situation}
use Rattle.plank_query.specs.declared.goals.Goal.{Goal}
use Rattle.plank_query.specs.Situations.{names, frame}
use Rattle.plank_goals.specs.Lists.{gathered}
use Rattle.plank_goals.specs.Named.{keeps_of, orders_of}
use Rattle.plank_goals.specs.Hidden.{hidden_goals}
use Rattle.plank_goals.specs.Wrongs.{HoldsOne, SayOfWrites}
use Rattle.plank_goals.proofs.Named.{named_holds, holds_named, orders_hold, hold_orders}
use Rattle.plank_goals.proofs.Inside.{hidden_holds, holds_hidden}

module _ (h : Header) (S : Situation) (B A : Picture) (xs ys : List Goal) where
  one_of_both : HoldsOne h S B A (xs ++ ys) → HoldsOne h S B A xs ⊎ HoldsOne h S B A ys
  one_of_both w =
      elim (Contains-append_cases xs ys w.goal w.asked) [
        | inl first ↦ inl (record { goal = w.goal; asked = first; holds = w.holds })
        | inr second ↦ inr (record { goal = w.goal; asked = second; holds = w.holds })
      ]

  first_of_both : HoldsOne h S B A xs → HoldsOne h S B A (xs ++ ys)
  first_of_both w = record { goal = w.goal; asked = Contains-append_left xs ys w.goal w.asked; holds = w.holds }

  second_of_both : HoldsOne h S B A ys → HoldsOne h S B A (xs ++ ys)
  second_of_both w = record { goal = w.goal; asked = Contains-append_right xs ys w.goal w.asked; holds = w.holds }

module _ (h : Header) (h_lawful : is_lawful_header h ≡ true) (n : ℕ) (goals : List Goal) where
  pub keeps_said : goals ≡ gathered (keeps_of (length h.keeps)) n ++ hidden_goals h n → SayOfWrites h n goals BreaksKeep
  keeps_said is S c B A writes count lawful possible =
      let m = names S in
      subst (λ gs. HoldsOne h S B A gs ↔ BreaksKeep (frame h S) c B A) (sym is)
      (subst (λ k. HoldsOne h S B A (gathered (keeps_of (length h.keeps)) k ++ hidden_goals h k) ↔ BreaksKeep (frame h S) c B A) count (
        (λ w. elim (one_of_both h S B A (gathered (keeps_of (length h.keeps)) m) (hidden_goals h m) w) [
          | inl named ↦ inl (named_holds h S c B A writes possible named)
          | inr hidden ↦ inr (hidden_holds h h_lawful S c B A writes lawful hidden)
        ]),
        (λ w. elim w [
          | inl named ↦ first_of_both h S B A (gathered (keeps_of (length h.keeps)) m) (hidden_goals h m) (holds_named h S c B A writes possible named)
          | inr hidden ↦ second_of_both h S B A (gathered (keeps_of (length h.keeps)) m) (hidden_goals h m) (holds_hidden h h_lawful S c B A writes lawful hidden)
        ]),
      ))

  pub orders_said : goals ≡ gathered (orders_of n (length h.pointers)) n → SayOfWrites h n goals BreaksOrder
  orders_said is S c B A writes count lawful possible =
      subst (λ gs. HoldsOne h S B A gs ↔ BreaksOrder (frame h S) c B A) (sym is)
      (subst (λ k. HoldsOne h S B A (gathered (orders_of k (length h.pointers)) k) ↔ BreaksOrder (frame h S) c B A) count
      (orders_hold h S c B A writes possible, hold_orders h S c B A writes possible))
