-- A lawful picture meets each rule, and a possible one those of possible pictures.
use Rattle.std.proofs.Common.{◌≡◌, ℕ, suc, ◌+◌, ◌*◌, ◌<◌, ◌==◌, Bool, true, false, not, length, List, [], ◌∷◌, Option, Some, None, refl, sym, ◌∙◌, ap, subst, arith}
use Rattle.std.specs.Prelude.{◌&&◌, ◌||◌, nat_lt, slice_get}
use Rattle.std.specs.Option.{option_map_or}
use Rattle.std.specs.List.{list_all}
use Rattle.std.proofs.lemmas.Bool.{and_parts, and_from, or_left, or_right, true≢false, lt-ltb, ltb-true, eq-eqb}
use Rattle.plank_prog.specs.declared.headers.Keep.{Keep}
use Rattle.plank_prog.specs.Conditions.{View, value}
use Rattle.plank_pic.specs.declared.parts.KeyName.{KeyName}
use Rattle.plank_pic.specs.declared.parts.Term.{Term}
use Rattle.plank_pic.specs.declared.parts.Place.{Place}
use Rattle.plank_pic.specs.declared.parts.Part.{Part}
use Rattle.plank_pic.specs.Frames.{Frame}
use Rattle.plank_pic.specs.Below.{some_below}
use Rattle.plank_pic.specs.Pictures.{Picture, place, same_key, edge, target, outer_target, is_fast, chains_on, node_view, stop_view}
use Rattle.plank_pic.specs.Lawful as lawful
use Rattle.plank_pic.specs.Lawful.{◌⇒◌, part_fits, place_fits, term_fits, slot_count, IsPicture, IsPossible, IsLawful}
use Rattle.plank_pic.specs.EachName.{leads_unvisited, arrives_by}
use Rattle.plank_pic.proofs.Below.{some_there}
use Rattle.plank_pic.proofs.EachName.{told, same_bits, visits_go_on_alike}
use Rattle.plank_lawful.specs.declared.asking.Asked.{Asked}
use Rattle.plank_lawful.specs.declared.families.NameRule.{NameRule}
use Rattle.plank_lawful.specs.declared.families.NodeRule.{NodeRule}
use Rattle.plank_lawful.specs.declared.families.PointerRule.{PointerRule}
use Rattle.plank_lawful.specs.declared.families.KeyRule.{KeyRule}
use Rattle.plank_lawful.specs.declared.families.WalkRule.{WalkRule}
use Rattle.plank_lawful.specs.declared.families.ChainRule.{ChainRule}
use Rattle.plank_lawful.specs.declared.families.KeptRule.{KeptRule}
use Rattle.plank_lawful.specs.declared.families.Family.{Family}
use Rattle.plank_lawful.specs.Indexes.{key_at, place_at, term_at, fixed_term, fixed_count}
use Rattle.plank_lawful.specs.Asked.{all_below, passes}
use Rattle.plank_lawful.specs.Rules
use Rattle.plank_lawful.specs.Families.{count, shape_of, is_possible}
use Rattle.plank_lawful.specs.Laws.{MeetsPossible, MeetsRules}
use Rattle.plank_lawful.proofs.Asked.{all_pass}
use Rattle.plank_lawful.proofs.Tests.{implied, told_by, level, beq_of, under}
use Rattle.plank_lawful.proofs.Places.{place_there, term_there, fixed_there}
use Rattle.plank_lawful.proofs.OneNode.{chained, locked, nothing_said, only, only_or_none, first}

-- a test of each keep, and of all
pub all_keep : (v : View) (keeps : List Keep)
    → ((c : ℕ) → c < length keeps → option_map_or (λ k. value v k.condition) (slice_get keeps c) true ≡ true) → list_all (λ (q : Keep). value v q.condition) keeps ≡ true
all_keep v [] each = refl
all_keep v (k ∷ keeps) each = and_from _ _ (each 0 (omega arith)) (all_keep v keeps (λ c h. each (suc c) (omega arith)))

module _ (F : Frame) (p : Picture) where
  module _ (is : IsPicture F p) where
    together : (i j : ℕ) → i < F.names → j < F.names → Rules.same_go_together F p i j ≡ true
    together i j bi bj = implied (p (Part.Same i j)) (Rules.each_name F p (Asked.SameAs i j)) (λ same. all_pass (passes p (Asked.SameAs i j)) F.names (λ n bn.
        beq_of (p (Part.Same i n)) (p (Part.Same j n)) (level (p (Part.Same i n)) (p (Part.Same j n))
        (told_by (p (Part.Same j i)) (p (Part.Same i n)) (p (Part.Same j n)) (is.transitive j i n bj bi bn) (told (p (Part.Same i j)) (p (Part.Same j i)) (is.symmetric i j bi bj) same))
        (told_by (p (Part.Same i j)) (p (Part.Same j n)) (p (Part.Same i n)) (is.transitive i j n bi bj bn) same))))

    null_node : (i : ℕ) → i < F.names → Rules.null_has_no_node F p i ≡ true
    null_node i bi = implied _ _ (λ null.
        let no = nothing_said F p is i bi null in
        and_from _ _ (and_from _ _ (and_from _ _ (ap not (no (Part.Shared i) (eq-eqb i i refl))) (ap not (no (Part.Mine i) (eq-eqb i i refl)))) (ap not (no (Part.Locked i) (eq-eqb i i refl))))
        (all_pass _ F.names (λ n bn. ap not (no (Part.Chain n i) (or_right (n == i) (i == i) (eq-eqb i i refl))))))

    null_pointer : (x : Place) → place_fits F x ≡ true → Rules.null_has_no_pointer F p x ≡ true
    null_pointer x fits = implied _ _ (λ null.
        let no = nothing_said F p is x.name (ltb-true _ _ (and_parts _ _ fits).0) null in
        and_from _ _ (and_from _ _ (ap not (no (Part.PointerNull x) (eq-eqb x.name x.name refl))) (ap not (no (Part.Beyond x) (eq-eqb x.name x.name refl))))
        (all_pass _ F.names (λ n bn. ap not (no (Part.Leads x n) (or_left (x.name == x.name) (n == x.name) (eq-eqb x.name x.name refl))))))

    module _ (i j : ℕ) (bi : i < F.names) (bj : j < F.names) where
      module _ (same : p (Part.Same i j) ≡ true) where
        ti : nat_lt i F.names ≡ true
        ti = lt-ltb i F.names bi

        tj : nat_lt j F.names ≡ true
        tj = lt-ltb j F.names bj

        at_or_below : (t : Term) → term_fits F t ≡ true → p (Part.AtMost t t) ≡ true
        at_or_below t fits = both (p (Part.AtMost t t)) (is.total t t fits fits)
          where
            both : (b : Bool) → (b || b) ≡ true → b ≡ true
            both true e = e
            both false e = e

        owners : Rules.owners_agree p i j ≡ true
        owners = and_from _ _ (beq_of _ _ (only F p is i j bi bj same (λ m. Part.Shared m) (λ n. refl) tj)) (beq_of _ _ (only F p is i j bi bj same (λ m. Part.Mine m) (λ n. refl) tj))

        lock_alike : lawful.lock_fits F i ≡ lawful.lock_fits F j
        lock_alike = ap (λ b. b && F.header.has_lock) (ti ∙ sym tj)

        locks : Rules.locks_agree p i j ≡ true
        locks = and_from _ _ (and_from _ _ (beq_of _ _ (only_or_none F p is i j bi bj same (λ m. Part.Locked m) (λ n. refl) lock_alike)) (beq_of _ _ (only_or_none F p is i j bi bj same (λ m. Part.LockMine m) (λ n. refl) lock_alike)))
            (beq_of _ _ (only_or_none F p is i j bi bj same (λ m. Part.LockOthers m) (λ n. refl) lock_alike))

        keys : same_key p (Term.Node i) (Term.Node j) ≡ true
        keys = and_from _ _
            (first F p is i j bi bj same (λ a b. Part.AtMost (Term.Node a) (Term.Node b)) (λ a b. refl) j (and_from _ _ ti tj) (and_from _ _ tj tj) ∙ at_or_below (Term.Node j) tj)
            (sym (first F p is i j bi bj same (λ a b. Part.AtMost (Term.Node a) (Term.Node b)) (λ a b. refl) i (and_from _ _ ti ti) (and_from _ _ tj ti)) ∙ at_or_below (Term.Node i) ti)

        module _ (f : ℕ) (bf : f < length F.header.pointers) where
          tf : nat_lt f (length F.header.pointers) ≡ true
          tf = lt-ltb f (length F.header.pointers) bf

          fi : place_fits F (place i f) ≡ true
          fi = and_from _ _ ti tf

          fj : place_fits F (place j f) ≡ true
          fj = and_from _ _ tj tf

          ends : Rules.ends_agree p (place i f) (place j f) ≡ true
          ends = and_from _ _ (and_from _ _ (beq_of _ _ (only F p is i j bi bj same (λ m. Part.PointerNull (place m f)) (λ n. refl) fj)) (beq_of _ _ (only F p is i j bi bj same (λ m. Part.Beyond (place m f)) (λ n. refl) fj)))
              (implied _ _ (λ beyond.
              sym (first F p is i j bi bj same (λ a b. Part.SameBeyond (place b f) (place a f)) (λ a b. refl) i (and_from _ _ fi fi) (and_from _ _ fi fj))
              ∙ same_bits _ _ (is.beyond (place i f) fi) ∙ beyond))

          leads : (n : ℕ) → n < F.names → passes p (Asked.LeadsAlike i j f) n ≡ true
          leads n bn =
              let tn = lt-ltb n F.names bn in
              and_from _ _ (beq_of _ _ (first F p is i j bi bj same (λ a b. Part.Leads (place a f) b) (λ a b. refl) n (and_from _ _ fi tn) (and_from _ _ fj tn)))
              (beq_of _ _ (first F p is i j bi bj same (λ a b. Part.Leads (place b f) a) (λ a b. refl) n (and_from _ _ (and_from _ _ tn tf) ti) (and_from _ _ (and_from _ _ tn tf) tj)))

        chains : (n : ℕ) → n < F.names → passes p (Asked.ChainsAlike i j) n ≡ true
        chains n bn =
            let tn = lt-ltb n F.names bn in
            and_from _ _ (beq_of _ _ (first F p is i j bi bj same (λ a b. Part.Chain a b) (λ a b. refl) n (and_from _ _ ti tn) (and_from _ _ tj tn)))
            (beq_of _ _ (first F p is i j bi bj same (λ a b. Part.Chain b a) (λ a b. refl) n (and_from _ _ tn ti) (and_from _ _ tn tj)))

        picks : (k : KeyName) (s n : ℕ) → nat_lt s (slot_count F) ≡ true → n < F.names → passes p (Asked.PicksAlike k (Rules.pair i j) s) n ≡ true
        picks k s n ts bn =
            let tn = lt-ltb n F.names bn in
            and_from _ _ (beq_of _ _ (first F p is i j bi bj same (λ a b. Part.Picks k a b s) (λ a b. refl) n (and_from _ _ (and_from _ _ ti tn) ts) (and_from _ _ (and_from _ _ tj tn) ts)))
            (beq_of _ _ (first F p is i j bi bj same (λ a b. Part.Picks k b a s) (λ a b. refl) n (and_from _ _ (and_from _ _ tn ti) ts) (and_from _ _ (and_from _ _ tn tj) ts)))

      nodes : Rules.nodes_agree p i j ≡ true
      nodes = implied _ _ (λ same. and_from _ _ (and_from _ _ (owners same) (locks same)) (keys same))

      flags : (f : ℕ) → f < length F.header.flags → Rules.flags_agree p i j f ≡ true
      flags f bf = implied _ _ (λ same. beq_of _ _ (only F p is i j bi bj same (λ m. Part.Flag m f) (λ n. refl) (and_from _ _ (lt-ltb j F.names bj) (lt-ltb f (length F.header.flags) bf))))

      visits : (k : KeyName) → Rules.visits_agree p i j k ≡ true
      visits k = implied _ _ (λ same. beq_of _ _ (only F p is i j bi bj same (λ m. Part.Visits k m) (λ n. refl) (lt-ltb j F.names bj)))

      pointers : (f : ℕ) → f < length F.header.pointers → Rules.pointers_agree F p i j f ≡ true
      pointers f bf = implied _ _ (λ same. and_from _ _ (ends same f bf) (all_pass _ F.names (leads same f bf)))

      chained_alike : Rules.chains_agree F p i j ≡ true
      chained_alike = implied _ _ (λ same. all_pass _ F.names (chains same))

      picked_alike : (k : KeyName) → slot_count F ≡ 2 → Rules.picks_agree F p i j k ≡ true
      picked_alike k two = implied _ _ (λ same. and_from _ _
          (all_pass _ F.names (λ n bn. picks same k 0 n (subst (λ s. nat_lt 0 s ≡ true) (sym two) refl) bn))
          (all_pass _ F.names (λ n bn. picks same k 1 n (subst (λ s. nat_lt 1 s ≡ true) (sym two) refl) bn)))

    once : (x : Place) → place_fits F x ≡ true → Rules.leads_once F p x ≡ true
    once x fits =
        let here : x.name < F.names = ltb-true _ _ (and_parts _ _ fits).0 in
        and_from _ _ (and_parts _ _ (is.once x x.name fits here)).0
        (implied _ _ (λ other. all_pass _ F.names (λ n bn. ap not (turned (p (Part.Leads x n)) (p (Part.PointerNull x) || p (Part.Beyond x)) (and_parts (not (p (Part.PointerNull x) && p (Part.Beyond x))) _ (is.once x n fits bn)).1 other))))
      where
        turned : (a b : Bool) → not (a && b) ≡ true → b ≡ true → a ≡ false
        turned true b e h = absurd (true≢false (sym (ap not (sym h) ∙ e)))
        turned false b e h = refl

    one_target : (x : Place) (j : ℕ) → place_fits F x ≡ true → j < F.names → Rules.leads_to_one F p x j ≡ true
    one_target x j fits bj = implied (p (Part.Leads x j)) (Rules.each_name F p (Asked.LeadsTo x j)) (λ led. all_pass (passes p (Asked.LeadsTo x j)) F.names (λ n bn.
        implied (p (Part.Leads x n)) (p (Part.Same j n)) (told_by (p (Part.Leads x j)) (p (Part.Leads x n)) (p (Part.Same j n)) (is.one_target x j n fits bj bn) led)))

    beyond_together : (x y : Place) (f : ℕ) → place_fits F x ≡ true → place_fits F y ≡ true → f < length F.header.pointers → Rules.beyond_go_together F p x y f ≡ true
    beyond_together x y f fx fy bf = implied (p (Part.SameBeyond x y)) (Rules.each_name F p (Asked.BeyondAs x y f)) (λ same. all_pass (passes p (Asked.BeyondAs x y f)) F.names (λ n bn.
        let fz : place_fits F (place n f) ≡ true = and_from _ _ (lt-ltb n F.names bn) (lt-ltb f (length F.header.pointers) bf) in
        let left = p (Part.SameBeyond x (place n f)) in let right = p (Part.SameBeyond y (place n f)) in
        beq_of left right (level left right
        (told_by (p (Part.SameBeyond y x)) left right (is.beyond_on y x (place n f) fy fx fz) (told (p (Part.SameBeyond x y)) (p (Part.SameBeyond y x)) (is.beyond_back x y fx fy) same))
        (told_by (p (Part.SameBeyond x y)) right left (is.beyond_on x y (place n f) fx fy fz) same))))

    order : (s t : Term) → term_fits F s ≡ true → term_fits F t ≡ true → Rules.order_goes_on F p s t ≡ true
    order s t fs ft = implied (p (Part.AtMost s t)) (Rules.each_name F p (Asked.NodeFollows s t) && all_below (passes p (Asked.TermFollows s t)) (fixed_count F)) (λ below. and_from _ _
        (all_pass (passes p (Asked.NodeFollows s t)) F.names (λ n bn. implied (p (Part.AtMost t (Term.Node n))) (p (Part.AtMost s (Term.Node n)))
        (told_by (p (Part.AtMost s t)) (p (Part.AtMost t (Term.Node n))) (p (Part.AtMost s (Term.Node n))) (is.in_order s t (Term.Node n) fs ft (lt-ltb n F.names bn)) below)))
        (all_pass (passes p (Asked.TermFollows s t)) (fixed_count F) (λ m bm. implied (p (Part.AtMost t (fixed_term m))) (p (Part.AtMost s (fixed_term m)))
        (told_by (p (Part.AtMost s t)) (p (Part.AtMost t (fixed_term m))) (p (Part.AtMost s (fixed_term m))) (is.in_order s t (fixed_term m) fs ft (fixed_there F m bm)) below))))

  module _ (q : IsPossible F p) where
    sends_on : (k : KeyName) (i : ℕ) → i < F.names → Rules.visit_sends_on F p k i ≡ true
    sends_on k i bi = implied (p (Part.Visits k i)) (Rules.sends_by F p k i (edge F.header p k i)) (λ visited. by_edge (edge F.header p k i)
        (told (p (Part.Visits k i)) (lawful.arrives F p k i (target F p k i)) (q.goes_on k i bi) visited)
        (told (p (Part.Visits k i)) (arrives_by F p k i (edge F.header p k i)) (sym (visits_go_on_alike F p q.picture k i bi) ∙ q.goes_on k i bi) visited))
      where
        visits_too : (b : Bool) → (b ≡ false → ⊥) → b ≡ true
        visits_too true h = refl
        visits_too false h = absurd (h refl)

        by_edge : (o : Option ℕ) → lawful.arrives F p k i (target F p k i) ≡ true → arrives_by F p k i o ≡ true → Rules.sends_by F p k i o ≡ true
        by_edge None now each = each
        by_edge (Some f) now each =
            let none : not (some_below (leads_unvisited p k (place i f)) F.names) ≡ true =
            (and_parts (not (some_below (leads_unvisited p k (place i f)) F.names)) (p (Part.Beyond (place i f)) ⇒ lawful.arrives F p k i (outer_target F p k i f)) each).0 in
            and_from _ _
            (all_pass (passes p (Asked.VisitedFrom k (place i f))) F.names (λ n bn. implied (p (Part.Leads (place i f) n)) (p (Part.Visits k n)) (λ leads.
            visits_too (p (Part.Visits k n)) (λ unvisited. true≢false (sym none ∙ ap not (some_there (leads_unvisited p k (place i f)) F.names n bn (and_from _ _ leads (ap not unvisited))))))))
            (implied (p (Part.Beyond (place i f))) (lawful.arrives F p k i (target F p k i)) (λ beyond. now))

    chain_on : (i j : ℕ) → i < F.names → j < F.names → Rules.chain_goes_on F p i j ≡ true
    chain_on i j bi bj = implied (chains_on p i j) (Rules.each_name F p (Asked.ChainGoesOn i j)) (λ on. all_pass (passes p (Asked.ChainGoesOn i j)) F.names (λ y by.
        implied (p (Part.Leads (place i 0) y)) (p (Part.Chain y j)) (told_by (chains_on p i j) (p (Part.Leads (place i 0) y)) (p (Part.Chain y j)) (q.chain_on i j y bi bj by) on)))

    chain_more : lawful.chains_are_there F ≡ true → (i j : ℕ) → i < F.names → j < F.names → Rules.chain_grows F p i j ≡ true
    chain_more there i j bi bj = implied (p (Part.Chain i j) && is_fast F.header p j) (Rules.each_name F p (Asked.ChainGrows i j)) (λ on. all_pass (passes p (Asked.ChainGrows i j)) F.names (λ r br.
        let w = and_parts (p (Part.Chain i j)) (is_fast F.header p j) on in
        implied (p (Part.Leads (place j 0) r)) (p (Part.Chain i r))
        (told_by (lawful.chains_are_there F && p (Part.Chain i j) && is_fast F.header p j) (p (Part.Leads (place j 0) r)) (p (Part.Chain i r)) (q.chain_end i j r bi bj br)
        (and_from _ _ (and_from _ _ there w.0) w.1))))

    picked : slot_count F ≡ 2 → (k : KeyName) (i j : ℕ) → i < F.names → j < F.names → Rules.picks_are_right F p k i j ≡ true
    picked two k i j bi bj = and_from _ _
        (and_from _ _ (q.pick k i j 0 bi bj (subst (λ s. 0 < s) (sym two) (omega arith))) (q.pick k i j 1 bi bj (subst (λ s. 1 < s) (sym two) (omega arith))))
        (q.pick_once k i j bi bj)

    is_picture : IsPicture F p
    is_picture = q.picture

    meets : (family : Family) (a b c : ℕ) → is_possible family ≡ true → a < count F (shape_of family).first 0 → b < count F (shape_of family).second a → c < count F (shape_of family).third a
        → Rules.family_holds F p family a b c ≡ true
    meets (Family.Names NameRule.Itself) a b c poss ha hb hc = is_picture.itself a ha
    meets (Family.Names NameRule.BothWays) a b c poss ha hb hc =
        let bb = under b a F.names hb ha in and_from _ _ (is_picture.symmetric a b ha bb) (is_picture.symmetric b a bb ha)
    meets (Family.Names NameRule.Together) a b c poss ha hb hc = together is_picture a b ha (under b a F.names hb ha)
    meets (Family.Names NameRule.NullNode) a b c poss ha hb hc = null_node is_picture a ha
    meets (Family.Names NameRule.NullFlag) a b c poss ha hb hc =
        is_picture.bare a (Part.Flag a b) ha (and_from _ _ (lt-ltb a F.names ha) (lt-ltb b (length F.header.flags) hb)) (eq-eqb a a refl)
    meets (Family.Names NameRule.NullPointer) a b c poss ha hb hc = null_pointer is_picture (place_at F a) (place_there F a ha)
    meets (Family.Names NameRule.Owned) a b c poss ha hb hc = is_picture.owned a ha
    meets (Family.Names NameRule.Held) a b c poss ha hb hc = is_picture.held a (locked F.header.has_lock F.names a ha)
    meets (Family.Nodes NodeRule.Node) a b c poss ha hb hc = nodes is_picture a b ha (under b a F.names hb ha)
    meets (Family.Nodes NodeRule.Flags) a b c poss ha hb hc = flags is_picture a b ha (under b a F.names hb ha) c hc
    meets (Family.Nodes NodeRule.Visits) a b c poss ha hb hc = visits is_picture a b ha (under b a F.names hb ha) (key_at c)
    meets (Family.Nodes NodeRule.Pointers) a b c poss ha hb hc = pointers is_picture a b ha (under b a F.names hb ha) c hc
    meets (Family.Nodes NodeRule.Chains) a b c poss ha hb hc = let w = chained F F.names a ha in chained_alike is_picture a b w.1 (under b a F.names hb w.1)
    meets (Family.Nodes NodeRule.Picks) a b c poss ha hb hc = let w = chained F F.names a ha in picked_alike is_picture a b w.1 (under b a F.names hb w.1) (key_at c) w.0.slots
    meets (Family.Pointers PointerRule.Somewhere) a b c poss ha hb hc = is_picture.somewhere (place_at F a) (place_there F a ha)
    meets (Family.Pointers PointerRule.Once) a b c poss ha hb hc = once is_picture (place_at F a) (place_there F a ha)
    meets (Family.Pointers PointerRule.OneTarget) a b c poss ha hb hc = one_target is_picture (place_at F a) b (place_there F a ha) hb
    meets (Family.Pointers PointerRule.BeyondItself) a b c poss ha hb hc = is_picture.beyond (place_at F a) (place_there F a ha)
    meets (Family.Pointers PointerRule.BeyondBothWays) a b c poss ha hb hc =
        let fa = place_there F a ha in let fb = place_there F b (under b a (length F.header.pointers * F.names) hb ha) in
        and_from _ _ (is_picture.beyond_back (place_at F a) (place_at F b) fa fb) (is_picture.beyond_back (place_at F b) (place_at F a) fb fa)
    meets (Family.Pointers PointerRule.BeyondTogether) a b c poss ha hb hc =
        beyond_together is_picture (place_at F a) (place_at F b) c (place_there F a ha) (place_there F b (under b a (length F.header.pointers * F.names) hb ha)) hc
    meets (Family.Keys KeyRule.Total) a b c poss ha hb hc = is_picture.total (term_at F a) (term_at F b) (term_there F a ha) (term_there F b (up_to b a (F.names + fixed_count F) hb ha))
      where
        up_to : (b a n : ℕ) → b < a + 1 → a < n → b < n
        up_to b a n h k = omega arith
    meets (Family.Keys KeyRule.InOrder) a b c poss ha hb hc = order is_picture (term_at F a) (term_at F b) (term_there F a ha) (term_there F b hb)
    meets (Family.Keys KeyRule.Ends) a b c poss ha hb hc = q.ends (term_at F a) (term_there F a ha)
    meets (Family.Keys KeyRule.Ordinary) a b c poss ha hb hc = q.ordinary (key_at a)
    meets (Family.Walks WalkRule.Root) a b c poss ha hb hc = q.root a ha
    meets (Family.Walks WalkRule.RootVisited) a b c poss ha hb hc = q.root_visited (key_at a) b hb
    meets (Family.Walks WalkRule.Unvisited) a b c poss ha hb hc = q.unvisited (key_at a) b hb
    meets (Family.Walks WalkRule.Unreached) a b c poss ha hb hc = q.unreached (place_at F a) b (place_there F a ha) hb
    meets (Family.Walks WalkRule.GoesOn) a b c poss ha hb hc = sends_on (key_at a) b hb
    meets (Family.Walks WalkRule.Stops) a b c poss ha hb hc = q.stops (key_at a) b hb
    meets (Family.Chains ChainRule.Itself) a b c poss ha hb hc = q.chain_itself a b ha hb
    meets (Family.Chains ChainRule.Begins) a b c poss ha hb hc = q.chain_first a b ha hb
    meets (Family.Chains ChainRule.GoesOn) a b c poss ha hb hc = let w = chained F F.names a ha in chain_on a b w.1 hb
    meets (Family.Chains ChainRule.Grows) a b c poss ha hb hc = let w = chained F F.names a ha in chain_more w.0.one_pointer a b w.1 hb
    meets (Family.Chains ChainRule.Picks) a b c poss ha hb hc = let w = chained F F.names b hb in picked w.0.slots (key_at a) b c w.1 hc
    meets (Family.Kept rule) a b c poss ha hb hc = absurd (true≢false (sym poss))

  module _ (q : IsLawful F p) where
    kept_keeps : (k : KeyName) (i : ℕ) → i < F.names → Rules.node_keeps F p k i ≡ true
    kept_keeps k i bi = implied _ _ (λ shared. all_keep (node_view p k i) F.header.keeps (λ c h. told _ _ (q.keeps k i c bi h) shared))

    kept_stop : (k : KeyName) (s : ℕ) → s < slot_count F → Rules.stop_keeps F p k s ≡ true
    kept_stop k s h = implied _ _ (λ picked. all_keep (stop_view p k s) F.header.keeps (λ c below. told _ _ (q.stop_kept k s c h below) picked))

    kept_picks : slot_count F ≡ 2 → (k : KeyName) (i j : ℕ) → i < F.names → j < F.names → Rules.picks_are_ordered F p k i j ≡ true
    kept_picks two k i j bi bj = and_from _ _ (q.pick_order k i j 0 bi bj (subst (λ s. 0 < s) (sym two) (omega arith))) (q.pick_order k i j 1 bi bj (subst (λ s. 1 < s) (sym two) (omega arith)))

    meets_kept : (rule : KeptRule) (a b c : ℕ) → a < count F (shape_of (Family.Kept rule)).first 0 → b < count F (shape_of (Family.Kept rule)).second a → c < count F (shape_of (Family.Kept rule)).third a
        → Rules.kept_rule_holds F p rule a b c ≡ true
    meets_kept KeptRule.Published a b c ha hb hc = q.published (place_at F a) b (place_there F a ha) hb
    meets_kept KeptRule.Keeps a b c ha hb hc = kept_keeps (key_at a) b hb
    meets_kept KeptRule.StopKeeps a b c ha hb hc = kept_stop (key_at a) b hb
    meets_kept KeptRule.StopKeepsOn a b c ha hb hc = q.stop_kept_on (key_at a) (key_at c) b hb
    meets_kept KeptRule.Edges a b c ha hb hc = q.edges (place_at F a) b (place_there F a ha) hb
    meets_kept KeptRule.Room a b c ha hb hc = q.room (place_at F a) (place_there F a ha)
    meets_kept KeptRule.Chains a b c ha hb hc = let w = chained F F.names a ha in q.chain_order a b w.1 hb
    meets_kept KeptRule.Picks a b c ha hb hc = let w = chained F F.names b hb in kept_picks w.0.slots (key_at a) b c w.1 hc

    meets_all : (family : Family) (a b c : ℕ) → a < count F (shape_of family).first 0 → b < count F (shape_of family).second a → c < count F (shape_of family).third a
        → Rules.family_holds F p family a b c ≡ true
    meets_all (Family.Names rule) a b c ha hb hc = meets q.possible (Family.Names rule) a b c refl ha hb hc
    meets_all (Family.Nodes rule) a b c ha hb hc = meets q.possible (Family.Nodes rule) a b c refl ha hb hc
    meets_all (Family.Pointers rule) a b c ha hb hc = meets q.possible (Family.Pointers rule) a b c refl ha hb hc
    meets_all (Family.Keys rule) a b c ha hb hc = meets q.possible (Family.Keys rule) a b c refl ha hb hc
    meets_all (Family.Walks rule) a b c ha hb hc = meets q.possible (Family.Walks rule) a b c refl ha hb hc
    meets_all (Family.Chains rule) a b c ha hb hc = meets q.possible (Family.Chains rule) a b c refl ha hb hc
    meets_all (Family.Kept rule) a b c ha hb hc = meets_kept rule a b c ha hb hc

  pub possible_meets : IsPossible F p → MeetsPossible F p
  possible_meets q r poss w = meets q r.family r.first r.second r.third poss w.first w.second w.third

  pub lawful_meets : IsLawful F p → MeetsRules F p
  lawful_meets q r w = meets_all q r.family r.first r.second r.third w.first w.second w.third
