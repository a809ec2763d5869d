-- At the least marks a location that no call comes to has no own picture: no mark is forced there, and of what is claimed
-- there then, some contradicts some.
use Rattle.std.specs.Prelude.{◌≡◌, ◌⊎◌, ℕ, ◌*◌, ◌/◌, ◌<◌, ◌≤◌, Bool, true, false, List, length, slice_get, Some}
use Rattle.std.proofs.Common.{refl, sym, ◌∙◌, ap, subst, inl, inr, arith}
use Rattle.std.proofs.lemmas.Bool.{true≢false, not-true, true_from_ne_false}
use Rattle.std.proofs.lemmas.Nat.{div-mul-add}
use Rattle.std.proofs.lemmas.Option.{same_Some}
use Rattle.plank_base.specs.declared.limits.TheConstants.{VARIABLES_LIMIT, FLAGS_LIMIT, POINTERS_LIMIT, MARK_WORDS_PER_LOCATION}
use Rattle.plank_bits.specs.Forced.{IsClosed}
use Rattle.plank_prog.specs.declared.headers.Header.{Header}
use Rattle.plank_prog.specs.declared.blocks.Reference.{Reference}
use Rattle.plank_prog.specs.declared.methods.Method.{Method}
use Rattle.plank_pic.specs.declared.literals.Literal.{Literal}
use Rattle.plank_pic.specs.declared.literals.Exit.{Exit}
use Rattle.plank_pic.specs.Pictures.{Picture}
use Rattle.plank_pic.specs.Truths.{truth}
use Rattle.plank_fact.specs.declared.facts.Fact.{Fact}
use Rattle.plank_fact.specs.Tables.{IsFactOf}
use Rattle.plank_fact.specs.Outlines.{Outline, Point, location_number, mark_number, IsMarkOf, IsClaimed}
use Rattle.plank_fact.specs.OwnSteps.{own_call, IsOwnPicture, HoldsCalls}
use Rattle.plank_fact.specs.After.{seen, IsAfter}
use Rattle.plank_fact.specs.Forced.{IsRefuted, at_entry, after, broken, outline, Forces, AreLeastMarks}
use Rattle.plank_fact.proofs.Counts.{number_within, facts_have_room}
use Rattle.plank_fact.proofs.TableFacts.{null_there, not_null_there}

either : (b : Bool) → (b ≡ true) ⊎ (b ≡ false)
either true = inl refl
either false = inr refl

not_set : (b : Bool) → (b ≡ true → ⊥) → b ≡ false
not_set false h = refl
not_set true h = absurd (h refl)

-- where all is claimed, root is said to be null and not null
contradicts : (O : Outline) (x : Point O.methods) (p : Picture) → ((f : Fact) → IsFactOf O.header x.method f → IsClaimed O x f)
    → ((L : Literal) → IsClaimed O x (Fact.Now L) → truth p (own_call x.method) L ≡ true) → ⊥
contradicts O x p all holds =
    let null = holds (Literal.Null Reference.Root) (all (Fact.Now (Literal.Null Reference.Root)) (null_there O.header x.method)) in
    let not_null = holds (Literal.NotNull Reference.Root) (all (Fact.Now (Literal.NotNull Reference.Root)) (not_null_there O.header x.method)) in
    true≢false (sym null ∙ not-true _ not_null)

unseen : (O : Outline) (x : Point O.methods) (p : Picture) → ((f : Fact) → IsFactOf O.header x.method f → IsClaimed O x f) → IsOwnPicture O x p → ⊥
unseen O x p all own = contradicts O x p all own.claimed

-- a call knows all facts after a step that nobody makes
known_after : (O : Outline) (x : Point O.methods) (e : Exit) (f : Fact) → ((g : Fact) → IsFactOf O.header x.method g → IsClaimed O x g) → IsFactOf O.header x.method f → IsAfter O x e f
known_after O x e (Fact.Now L) all is = record { fact = is; holds = λ p arrives. absurd (unseen O x arrives.0 all arrives.1.own) }
known_after O x e (Fact.Past L) all is = seen is (λ p arrives. absurd (unseen O x arrives.0 all arrives.1.own))

module _ (h : Header) (methods : List Method) (few_flags : length h.flags ≤ FLAGS_LIMIT) (few_pointers : length h.pointers ≤ POINTERS_LIMIT)
    (few_variables : (m : ℕ) (method : Method) → slice_get methods m ≡ Some method → length method.variables ≤ VARIABLES_LIMIT)
    (inside : ℕ → Bool) (holds : HoldsCalls methods inside) where
  abbrev is_inside : Point methods → Bool
  is_inside x = inside (location_number methods x.m x.l)

  -- all marks of the locations that calls stay in
  theirs : ℕ → Bool
  theirs k = inside (k / (64 * MARK_WORDS_PER_LOCATION))

  theirs_at : (x : Point methods) (f : Fact) (k : ℕ) → IsMarkOf h x f k → theirs k ≡ is_inside x
  unfolding theirs
  theirs_at x f k of =
      let number = number_within h x.method of.number f of.fact in
      let room = facts_have_room h x.method (few_variables x.m x.method x.called) few_flags few_pointers in
      let fits : of.number < 64 * MARK_WORDS_PER_LOCATION = omega arith in
      ap (λ v. inside (v / (64 * MARK_WORDS_PER_LOCATION))) of.is
      ∙ ap inside (div-mul-add (location_number methods x.m x.l) (64 * MARK_WORDS_PER_LOCATION) of.number fits)

  -- with these marks all is claimed at the other locations
  all_claimed : (x : Point methods) → is_inside x ≡ false → (f : Fact) → IsFactOf h x.method f → IsClaimed (outline h methods theirs) x f
  all_claimed x out f is =
      let of : IsMarkOf h x f (mark_number methods x.m x.l is.0) = record { number = is.0; fact = is.1; is = refl } in
      record { mark = mark_number methods x.m x.l is.0; of_fact = of; is = theirs_at x f (mark_number methods x.m x.l is.0) of ∙ out }

  -- and so none is refuted there
  not_refuted : (x : Point methods) (f : Fact) → IsFactOf h x.method f → is_inside x ≡ false → IsRefuted (outline h methods theirs) x f → ⊥
  not_refuted x f is out (at_entry first lacks) = true≢false (sym (holds.begins x first) ∙ out)
  not_refuted x f is out (after from e leads lacks) =
      elim (either (is_inside from)) [
        | inl in_too ↦ true≢false (sym (holds.stays from x e leads in_too) ∙ out)
        | inr out_too ↦
            (let same : x.method ≡ from.method = same_Some x.method from.method (sym x.called ∙ ap (slice_get methods) leads.same_method ∙ from.called) in
            lacks (known_after (outline h methods theirs) from e f (all_claimed from out_too) (subst (λ m. IsFactOf h m f) same is)))
      ]
  not_refuted x f is out (broken w) = contradicts (outline h methods theirs) x w.before (all_claimed x out) w.claimed

  theirs_are_closed : IsClosed (Forces h methods) (length methods) theirs
  theirs_are_closed k forced =
      let w = forced.2 in
      elim w.forced [
        | inl set ↦ set
        | inr refuted ↦ true_from_ne_false (theirs k) (λ clear. not_refuted w.at w.fact (w.is.number, w.is.fact) (sym (theirs_at w.at w.fact k w.is) ∙ clear) refuted)
      ]

  pub unreached : (marks : ℕ → Bool) → AreLeastMarks h methods marks → (x : Point methods) → is_inside x ≡ false → (p : Picture) → IsOwnPicture (outline h methods marks) x p → ⊥
  unreached marks least x out p own =
      unseen (outline h methods marks) x p
      (λ f is.
      let k = mark_number methods x.m x.l is.0 in
      let of : IsMarkOf h x f k = record { number = is.0; fact = is.1; is = refl } in
      record {
        mark = k;
        of_fact = of;
        is = not_set (marks k) (λ set. true≢false (sym (least.within theirs theirs_are_closed k set) ∙ theirs_at x f k of ∙ out));
      })
      own
