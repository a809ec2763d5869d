-- An outline is valid, that is, its claims are justified, exactly where its marks are closed, that is, each method forces no
-- more marks than are set. Of each fact of a method's table the claim or the mark is there, and never both.
use Rattle.std.specs.Prelude.{◌≡◌, ◌⊎◌, ℕ, Bool, true, false, List, slice_get}
use Rattle.std.proofs.Common.{length, refl, sym, ◌∙◌, ap, subst, inl, inr}
use Rattle.std.proofs.lemmas.Bool.{true≢false, true_from_ne_false}
use Rattle.std.proofs.lemmas.Option.{slice_get_within, same_Some}
use Rattle.plank_bits.specs.Forced.{IsClosed}
use Rattle.plank_prog.specs.declared.headers.Header.{Header}
use Rattle.plank_prog.specs.declared.methods.Method.{Method}
use Rattle.plank_pic.specs.declared.literals.Exit.{Exit}
use Rattle.plank_fact.specs.declared.facts.Fact.{Fact}
use Rattle.plank_fact.specs.Tables.{IsFactOf}
use Rattle.plank_fact.specs.Outlines.{Outline, Point, mark_number, IsClaimed, IsMarked}
use Rattle.plank_fact.specs.After.{IsAfter, IsAtEntry}
use Rattle.plank_fact.proofs.Numbered.{numbers_agree}
use Rattle.plank_fact.specs.Forced.{IsRefuted, at_entry, after, broken, outline, Forces, IsValid}

-- what is claimed is not refuted
not_refuted : (O : Outline) (x : Point O.methods) (f : Fact) → IsValid O → IsClaimed O x f → IsRefuted O x f → ⊥
not_refuted O x f v c (at_entry first lacks) = lacks (v.entry x f first c)
not_refuted O x f v c (after from e leads lacks) = lacks (v.after from x e f leads c)
not_refuted O x f v c (broken w) = v.kept x _ c w

set_already : (h : Header) (methods : List Method) (marks : ℕ → Bool) (m k : ℕ) → IsValid (outline h methods marks) → (w : Forces h methods m marks k)
    → (marks k ≡ true) ⊎ IsRefuted (outline h methods marks) w.at w.fact → marks k ≡ true
set_already h methods marks m k v w (inl set) = set
set_already h methods marks m k v w (inr r) =
    true_from_ne_false (marks k) (λ clear. not_refuted (outline h methods marks) w.at w.fact v (record { mark = k; of_fact = w.is; is = clear }) r)

pub valid_is_closed : (h : Header) (methods : List Method) (marks : ℕ → Bool) (n : ℕ) → IsValid (outline h methods marks) → IsClosed (Forces h methods) n marks
valid_is_closed h methods marks n v k forced = set_already h methods marks forced.0 k v forced.2 forced.2.forced

-- ---- the other way, where it is decided what follows from steps and entries

-- a claim whose mark is forced is none, in closed marks
forced_claim : (h : Header) (methods : List Method) (marks : ℕ → Bool) → IsClosed (Forces h methods) (length methods) marks → (x : Point methods) (f : Fact)
    → IsClaimed (outline h methods marks) x f → IsRefuted (outline h methods marks) x f → ⊥
forced_claim h methods marks closed x f c r =
    true≢false (sym (closed c.mark (x.m, slice_get_within methods x.m x.method x.called, record { at = x; of_method = refl; fact = f; is = c.of_fact; forced = inr r })) ∙ c.is)

by_decision : {A : Type 0} → (A ⊎ (A → ⊥)) → ((A → ⊥) → ⊥) → A
by_decision (inl a) h = a
by_decision (inr lacks) h = absurd (h lacks)

pub closed_is_valid : (h : Header) (methods : List Method) (marks : ℕ → Bool) → IsClosed (Forces h methods) (length methods) marks
    → ((m : Method) (f : Fact) → IsFactOf h m f → IsAtEntry (outline h methods marks) m f ⊎ (IsAtEntry (outline h methods marks) m f → ⊥))
    → ((x : Point methods) (e : Exit) (f : Fact) → IsFactOf h x.method f → IsAfter (outline h methods marks) x e f ⊎ (IsAfter (outline h methods marks) x e f → ⊥))
    → IsValid (outline h methods marks)
closed_is_valid h methods marks closed entry_decided after_decided = record {
  entry = λ x f begins c. by_decision (entry_decided x.method f (c.of_fact.number, c.of_fact.fact)) (λ lacks. forced_claim h methods marks closed x f c (at_entry begins lacks));
  after = λ from x e f leads c.
      let same : x.method ≡ from.method = same_Some x.method from.method (sym x.called ∙ ap (slice_get methods) leads.same_method ∙ from.called) in
      by_decision (after_decided from e f (subst (λ m. IsFactOf h m f) same (c.of_fact.number, c.of_fact.fact))) (λ lacks. forced_claim h methods marks closed x f c (after from e leads lacks));
  kept = λ x L c w. forced_claim h methods marks closed x (Fact.Now L) c (broken w);
}

-- ---- claims and marks

pub claimed_or_marked : (O : Outline) (x : Point O.methods) (f : Fact) → IsFactOf O.header x.method f → IsClaimed O x f ⊎ IsMarked O x f
claimed_or_marked O x f is = by_cases (O.marks (mark_number O.methods x.m x.l is.0)) refl
  where
    by_cases : (b : Bool) → O.marks (mark_number O.methods x.m x.l is.0) ≡ b → IsClaimed O x f ⊎ IsMarked O x f
    by_cases true e = inr (record { mark = mark_number O.methods x.m x.l is.0; of_fact = record { number = is.0; fact = is.1; is = refl }; is = e })
    by_cases false e = inl (record { mark = mark_number O.methods x.m x.l is.0; of_fact = record { number = is.0; fact = is.1; is = refl }; is = e })

pub not_both : (O : Outline) (x : Point O.methods) (f : Fact) → IsClaimed O x f → IsMarked O x f → ⊥
not_both O x f c d =
    let one = numbers_agree O.header x.method c.of_fact.number d.of_fact.number f c.of_fact.fact d.of_fact.fact in
    let same = c.of_fact.is ∙ ap (mark_number O.methods x.m x.l) one ∙ sym d.of_fact.is in
    true≢false (sym d.is ∙ sym (ap O.marks same) ∙ c.is)
