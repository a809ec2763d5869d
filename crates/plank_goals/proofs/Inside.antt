-- The goals of nodes inside chains hold just where a keep of such a node may break unseen.
use Rattle.std.specs.Prelude.{◌≡◌, ℕ, ◌<◌, ◌^◌, ◌==◌, Bool, true, false, not, ◌&&◌, ◌||◌, [], length, Option, Some, None, option_map, Contains, if◌then◌else◌}
use Rattle.std.specs.Bool.{beq}
use Rattle.std.proofs.Common.{refl, sym, ◌∙◌, ap, subst, arith}
use Rattle.std.proofs.lemmas.Bool.{and_parts, and_from, cond-true, eqb-true, lt-ltb}
use Rattle.std.proofs.lemmas.Option.{same_Some, none-some}
use Rattle.plank_base.specs.declared.limits.TheConstants.{FLAGS_LIMIT}
use Rattle.plank_prog.specs.declared.headers.KeyOrder.{KeyOrder}
use Rattle.plank_prog.specs.declared.headers.Keep.{Keep}
use Rattle.plank_prog.specs.declared.headers.Header.{Header}
use Rattle.plank_prog.specs.Conditions.{View, value}
use Rattle.plank_prog.specs.Headers.{is_lawful_header}
use Rattle.plank_prog.specs.Views.{is_bit_set, is_frozen}
use Rattle.plank_prog.proofs.HeaderFacts.{few_flags}
use Rattle.plank_pic.specs.declared.parts.KeyName.{KeyName}
use Rattle.plank_pic.specs.declared.parts.Term.{Term}
use Rattle.plank_pic.specs.Frames.{Frame}
use Rattle.plank_pic.specs.Pictures.{Picture, is_below}
use Rattle.plank_pic.specs.Lawful.{term_fits, keeps_hold, IsLawful}
use Rattle.plank_pic.specs.Steps.{Change, mixed}
use Rattle.plank_pic.specs.Keeps.{Placed, placed_order, enters_chain, IsInner}
use Rattle.plank_pic.proofs.Below.{some_found, some_there}
use Rattle.plank_fact.specs.Hidden.{HiddenKeepFails}
use Rattle.plank_query.specs.declared.situations.Situation.{Situation}
use Rattle.plank_query.specs.declared.goals.Goal.{Goal}
use Rattle.plank_query.specs.Situations.{change, frame, names}
use Rattle.plank_query.specs.Goals.{goal_holds, enters_between}
use Rattle.plank_goals.specs.declared.spots.Spot.{Spot}
use Rattle.plank_goals.specs.Lists.{gathered, listed}
use Rattle.plank_goals.specs.Spots.{spot_at, spot_key, room_between, room, first_order, inner_view, tells, some_tell}
use Rattle.plank_goals.specs.Hidden.{chain_goal, chains_to, chains_of, spot_goals, hidden_goals}
use Rattle.plank_goals.specs.Wrongs.{HoldsOne}
use Rattle.plank_goals.proofs.Gathered.{in_gathered, gathered_in, in_listed, listed_in, nothing_at}
use Rattle.plank_goals.proofs.Named.{written_so}
use Rattle.plank_goals.proofs.Entering.{IsChainOf, entered_chain}
use Rattle.plank_goals.proofs.Cuts.{place_at, LiesAt, IsCut, cut_at, lies_at, in_chain, some_spot, has_room}
use Rattle.plank_goals.proofs.Views.{IsSeen, order_seen, bits, bits_few, bits_set, frozen_seen, keeps_seen}
use Rattle.plank_goals.proofs.Telling.{all_from, from_all, one_from, from_one, differ, differing}

-- ---- lists

-- the number of a spot
abbrev spot_number : Spot → ℕ
spot_number Spot.AtMin = 0
spot_number Spot.Lower = 1
spot_number Spot.Equal = 2
spot_number Spot.Higher = 3
spot_number Spot.AtMax = 4

spot_there : (s : Spot) → (spot_number s < 5) × (spot_at (spot_number s) ≡ s)
spot_there Spot.AtMin = (omega arith, refl)
spot_there Spot.Lower = (omega arith, refl)
spot_there Spot.Equal = (omega arith, refl)
spot_there Spot.Higher = (omega arith, refl)
spot_there Spot.AtMax = (omega arith, refl)

-- a goal of the list, and what it is of
record IsChainGoal (h : Header) (n : ℕ) (goal : Goal) : Type 0 where
  pub spot : Spot
  pub told : some_tell h spot ≡ true
  pub from : ℕ
  pub to : ℕ
  pub between : Term × Term
  pub has_room : room (first_order h) spot from to ≡ Some between
  pub is : Goal.EntersChain from to between.0 between.1 ≡ goal

module _ (h : Header) (n : ℕ) (goal : Goal) where
  of_room : (y q : ℕ) (o : Option (Term × Term)) → option_map (λ (r : Term × Term). Goal.EntersChain y q r.0 r.1) o ≡ Some goal → (r : Term × Term) × (o ≡ Some r) × (Goal.EntersChain y q r.0 r.1 ≡ goal)
  of_room y q None e = absurd (none-some goal e)
  of_room y q (Some r) e = (r, refl, same_Some (Goal.EntersChain y q r.0 r.1) goal e)

  of_spot : (spot : Spot) (b : Bool) → some_tell h spot ≡ b → Contains (if b then chains_of (first_order h) spot n else []) goal → IsChainGoal h n goal
  of_spot spot false told w = absurd (nothing_at goal w)
  of_spot spot true told w =
      let v = in_gathered (chains_to (first_order h) spot n) n goal w in
      let u = in_gathered (λ q. listed (chain_goal (first_order h) spot v.0 q)) n goal v.2 in
      let r = of_room v.0 u.0 (room (first_order h) spot v.0 u.0) (in_listed (chain_goal (first_order h) spot v.0 u.0) goal u.2) in
      record { spot = spot; told = told; from = v.0; to = u.0; between = r.0; has_room = r.1; is = r.2 }

  of_hidden : (b : Bool) → Contains (if b then gathered (λ s. spot_goals h (first_order h) n (spot_at s)) 5 else []) goal → IsChainGoal h n goal
  of_hidden false w = absurd (nothing_at goal w)
  of_hidden true w =
      let v = in_gathered (λ s. spot_goals h (first_order h) n (spot_at s)) 5 goal w in
      of_spot (spot_at v.0) (some_tell h (spot_at v.0)) refl v.2

  hidden_of : (w : IsChainGoal h n goal) → w.from < n → w.to < n → (length h.pointers == 1) ≡ true → Contains (hidden_goals h n) goal
  hidden_of w from_within to_within one =
      let order = first_order h in
      let listed_here : chain_goal order w.spot w.from w.to ≡ Some goal = ap (option_map (λ (r : Term × Term). Goal.EntersChain w.from w.to r.0 r.1)) w.has_room ∙ ap Some w.is in
      let here = gathered_in (λ q. listed (chain_goal order w.spot w.from q)) n w.to goal to_within (listed_in (chain_goal order w.spot w.from w.to) goal listed_here) in
      let chains = gathered_in (chains_to order w.spot n) n w.from goal from_within here in
      let of_its : Contains (spot_goals h order n w.spot) goal = subst (λ xs. Contains xs goal) (sym (cond-true (some_tell h w.spot) (chains_of order w.spot n) [] w.told)) chains in
      let number = spot_there w.spot in
      subst (λ xs. Contains xs goal) (sym (cond-true (length h.pointers == 1) (gathered (λ s. spot_goals h order n (spot_at s)) 5) [] one))
      (gathered_in (λ s. spot_goals h order n (spot_at s)) 5 (spot_number w.spot) goal number.0 (subst (λ s. Contains (spot_goals h order n s) goal) (sym number.1) of_its))

-- the terms of a room are there
module _ (F : Frame) (y q : ℕ) (fy : term_fits F (Term.Node y) ≡ true) (fq : term_fits F (Term.Node q) ≡ true) where
  abbrev AreThere : Term × Term → Type 0
  AreThere r = (term_fits F r.0 ≡ true) × (term_fits F r.1 ≡ true)

  between_fits : (low high : ℕ) → term_fits F (Term.Node low) ≡ true → term_fits F (Term.Node high) ≡ true → (spot : Spot) (r : Term × Term) → room_between low high spot ≡ Some r → AreThere r
  between_fits low high fl fh Spot.AtMin r e = absurd (none-some r e)
  between_fits low high fl fh Spot.Lower r e = subst AreThere (same_Some (Term.Node low, Term.Max) r e) (fl, refl)
  between_fits low high fl fh Spot.Equal r e = subst AreThere (same_Some (Term.Node low, Term.Node high) r e) (fl, fh)
  between_fits low high fl fh Spot.Higher r e = subst AreThere (same_Some (Term.Min, Term.Node high) r e) (refl, fh)
  between_fits low high fl fh Spot.AtMax r e = absurd (none-some r e)

  room_fits : (order : KeyOrder) (spot : Spot) (r : Term × Term) → room order spot y q ≡ Some r → AreThere r
  room_fits KeyOrder.Ascending spot r e = between_fits y q fy fq spot r e
  room_fits KeyOrder.Descending spot r e = between_fits q y fq fy spot r e
  room_fits KeyOrder.Free spot r e = subst AreThere (same_Some (Term.Min, Term.Max) r e) (refl, refl)

-- ---- pictures

module _ (h : Header) (h_lawful : is_lawful_header h ≡ true) (S : Situation) (c : Change) (B A : Picture) (writes : change S ≡ Some c) (lawful : IsLawful (frame h S) B) where
  abbrev F : Frame
  F = frame h S

  abbrev n : ℕ
  n = names S

  abbrev Any : KeyName
  Any = KeyName.Any

  abbrev Enters : ℕ → ℕ → Type 0
  Enters y q = (enters_chain F B Any c.at y q || enters_chain F (mixed B c) Any c.at y q) ≡ true

  one_of : (y q : ℕ) → IsChainOf F B y q → length h.pointers ≡ 1
  one_of y q chain = eqb-true (length h.pointers) 1 chain.one_pointer

  -- ---- from a goal to a node that a keep tells of

  module _ (y q : ℕ) (enters : Enters y q) (spot : Spot) (r : Term × Term) (roomy : room (first_order h) spot y q ≡ Some r)
      (above : is_below B r.0 (Term.Walked Any) ≡ true) (below : is_below B (Term.Walked Any) r.1 ≡ true) (flags : ℕ) (told : tells h (spot_key spot) flags ≡ true) where
    chain : IsChainOf F B y q
    chain = entered_chain F c Any B lawful y q enters

    fy : term_fits F (Term.Node y) ≡ true
    fy = lt-ltb y n chain.from_within

    fq : term_fits F (Term.Node q) ≡ true
    fq = lt-ltb q n chain.to_within

    abbrev at : Placed
    at = place_at B Any r.0 r.1 spot

    fits : AreThere F y q fy fq r
    fits = room_fits F y q fy fq (first_order h) spot r roomy

    lies : LiesAt Any at spot
    lies = lies_at F B lawful.possible Any r.0 r.1 fits.0 fits.1 above below spot

    cut : IsCut F B at
    cut = cut_at F B lawful.possible Any r.0 r.1 fits.0 fits.1 spot

    abbrev v : View
    v = record { at_most = placed_order B Any at; flag = λ f. is_bit_set flags f; null = λ f. false; visited = true }

    seen : IsSeen h v (spot_key spot) flags
    seen = record { at_most = order_seen F B lawful.possible Any at spot lies; flag = λ f below_f. refl; null = refl }

    parts : (is_frozen h (spot_key spot) flags ≡ true) × (not (beq (keeps_hold h (inner_view (spot_key spot) flags true)) (keeps_hold h (inner_view (spot_key spot) flags false))) ≡ true)
    parts = and_parts (is_frozen h (spot_key spot) flags) _ told

    inner : IsInner F B Any y q v at
    inner = record {
      total = cut.total;
      up = cut.up;
      down = cut.down;
      through = cut.through;
      order = λ a b. refl;
      frozen = frozen_seen h h_lawful v (spot_key spot) flags seen ∙ parts.0;
      pointer = refl;
      ends = and_from _ _ lies.from_min lies.to_max;
      between = in_chain F B lawful.possible Any (first_order h) y q fy fq chain.ordered spot r roomy above below;
    }

    -- all keeps, by the visit bit
    keeps_with : (b : Bool) → keeps_hold h (record v { visited = b }) ≡ keeps_hold h (inner_view (spot_key spot) flags b)
    keeps_with b = keeps_seen h h_lawful v (spot_key spot) flags seen (one_of y q chain) b

    pub goal_fails : HiddenKeepFails F c Any B
    goal_fails =
        let d = differing (λ b. keeps_hold h (inner_view (spot_key spot) flags b)) parts.1 in
        let kept = from_all (λ (k : Keep). value (record v { visited = d.0 }) k.condition) h.keeps (keeps_with d.0 ∙ d.1) in
        let broken = one_from (λ (k : Keep). value (record v { visited = not d.0 }) k.condition) h.keeps (keeps_with (not d.0) ∙ d.2) in
        record {
          first = y;
          last = q;
          enters = enters;
          view = v;
          place = at;
          inner = inner;
          visited = d.0;
          kept = λ i below_i. kept i;
          broken = broken.0;
          there = broken.1;
          breaks = broken.2;
        }

  pub hidden_holds : HoldsOne h S B A (hidden_goals h n) → HiddenKeepFails F c Any B
  hidden_holds w =
      let g = of_hidden h n w.goal (length h.pointers == 1) w.asked in
      let r = g.between in
      let so = sym (written_so S c (enters_between F B g.from g.to r.0 r.1) writes) ∙ subst (λ t. goal_holds h S B A t ≡ true) (sym g.is) w.holds in
      let ends = and_parts (is_below B r.0 (Term.Walked Any) && is_below B (Term.Walked Any) r.1) _ so in
      let terms = and_parts (is_below B r.0 (Term.Walked Any)) (is_below B (Term.Walked Any) r.1) ends.0 in
      let flags = some_found (tells h (spot_key g.spot)) (2 ^ FLAGS_LIMIT) g.told in
      goal_fails g.from g.to ends.1 g.spot r g.has_room terms.0 terms.1 flags.0 flags.2

  -- ---- and back

  pub holds_hidden : HiddenKeepFails F c Any B → HoldsOne h S B A (hidden_goals h n)
  holds_hidden w =
      let y = w.first in
      let q = w.last in
      let i = w.inner in
      let chain_so = entered_chain F c Any B lawful y q w.enters in
      let y_fits = lt-ltb y n chain_so.from_within in
      let q_fits = lt-ltb q n chain_so.to_within in
      let one = one_of y q chain_so in
      let its_cut : IsCut F B w.place = record { total = i.total; up = i.up; down = i.down; through = i.through } in
      let s = some_spot F B lawful.possible Any w.place its_cut i.ends in
      let r = has_room F B lawful.possible Any w.place its_cut i.ends (first_order h) y q y_fits q_fits i.between s.0 s.1 in
      let flags = bits w.view.flag (length h.flags) in
      let few = few_flags h h_lawful in
      let its_seen : IsSeen h w.view (spot_key s.0) flags = record {
        at_most = λ a b. i.order a b ∙ order_seen F B lawful.possible Any w.place s.0 s.1 a b;
        flag = λ f below. bits_set w.view.flag (length h.flags) f few below;
        null = i.pointer;
      } in
      let kept = all_from (λ (k : Keep). value (record w.view { visited = w.visited }) k.condition) h.keeps w.kept in
      let broken = from_one (λ (k : Keep). value (record w.view { visited = not w.visited }) k.condition) h.keeps w.broken w.breaks in
      let told : tells h (spot_key s.0) flags ≡ true = and_from (is_frozen h (spot_key s.0) flags) _ (sym (frozen_seen h h_lawful w.view (spot_key s.0) flags its_seen) ∙ i.frozen)
      (differ (λ b. keeps_hold h (inner_view (spot_key s.0) flags b)) w.visited
      (sym (keeps_seen h h_lawful w.view (spot_key s.0) flags its_seen one w.visited) ∙ kept)
      (sym (keeps_seen h h_lawful w.view (spot_key s.0) flags its_seen one (not w.visited)) ∙ broken)) in
      let goal = Goal.EntersChain y q r.between.0 r.between.1 in
      record {
        goal = goal;
        asked = hidden_of h n goal (record {
          spot = s.0;
          told = some_there (tells h (spot_key s.0)) (2 ^ FLAGS_LIMIT) flags (bits_few w.view.flag (length h.flags) few) told;
          from = y;
          to = q;
          between = r.between;
          has_room = r.is;
          is = refl;
        }) chain_so.from_within chain_so.to_within chain_so.one_pointer;
        holds = written_so S c (enters_between F B y q r.between.0 r.between.1) writes ∙ and_from _ _ (and_from _ _ r.above r.below) w.enters;
      }
