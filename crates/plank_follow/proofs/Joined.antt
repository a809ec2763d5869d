-- Where nothing follows from all together, nothing follows from any past fact with what is true.
use Rattle.std.specs.Prelude.{◌≡◌, ℕ, ◌+◌, ◌*◌, ◌<◌, ◌==◌, Bool, true, not, ◌++◌, ◌∷◌, [], List, Option, Some, None, Contains}
use Rattle.std.specs.Option.{option_map_or}
use Rattle.std.proofs.Common.{refl, sym, ◌∙◌, ap, subst, inl, inr, arith}
use Rattle.std.proofs.lemmas.Bool.{cases_eq, and_parts, and_from, eqb-true}
use Rattle.std.proofs.lemmas.Option.{none-some}
use Rattle.std.proofs.lemmas.List.Elements.{Contains-append_left, Contains-append_right, Contains-push}
use Rattle.plank_base.specs.declared.limits.TheConstants.{MARK_WORDS_PER_LOCATION}
use Rattle.plank_bits.specs.Words.{IsWithin}
use Rattle.plank_prog.specs.declared.headers.Header.{Header}
use Rattle.plank_prog.specs.declared.blocks.Reference.{Reference}
use Rattle.plank_prog.specs.declared.methods.Method.{Method}
use Rattle.plank_prog.specs.declared.programs.Program.{Program}
use Rattle.plank_pic.specs.declared.parts.Part.{Part}
use Rattle.plank_pic.specs.declared.literals.Literal.{Literal}
use Rattle.plank_pic.specs.Pictures.{Picture}
use Rattle.plank_pic.specs.Truths.{Caller, truth}
use Rattle.plank_pic.proofs.Below.{some_found}
use Rattle.plank_fact.specs.declared.facts.Fact.{Fact}
use Rattle.plank_fact.specs.Literals.{past_name}
use Rattle.plank_fact.specs.Tables.{fact_at, IsNumbered}
use Rattle.plank_fact.specs.Outlines.{Outline}
use Rattle.plank_fact.specs.OwnSteps.{own_call}
use Rattle.plank_fact.specs.Hindsight.{is_node_shared, is_witnessed, AllTrue}
use Rattle.plank_follow.specs.Kinds.{is_of_kind, is_kind_at, kind_below}
use Rattle.plank_follow.specs.Following.{IsGiven, IsFollowing, AddsPast}
use Rattle.plank_follow.specs.Together.{AreAmong, IsWitnessedIn, AreTogether, AreUsed}

-- ---- lists that grow

module _ (old mid new : List Literal) where
  pub among_then : AreAmong old mid → AreAmong mid new → AreAmong old new
  among_then a b L c = b L (a L c)

  pub witnessed_then : (P : Literal) → IsWitnessedIn mid P → AreAmong mid new → IsWitnessedIn new P
  witnessed_then P w a = (a P w.0, λ q e. a (Literal.Shared q) (w.1 q e))

pub pushed_among : (old new : List Literal) (x : Literal) → new ≡ old ++ x ∷ [] → AreAmong old new
pushed_among old new x is L c = subst (λ xs. Contains xs L) (sym is) (Contains-append_left old (x ∷ []) L c)

pub pushed_there : (old new : List Literal) (x : Literal) → new ≡ old ++ x ∷ [] → Contains new x
pushed_there old new x is = subst (λ xs. Contains xs x) (sym is) (Contains-push old x)

pub appended_among : (old new added : List Literal) → new ≡ old ++ added → AreAmong old new
appended_among old new added is L c = subst (λ xs. Contains xs L) (sym is) (Contains-append_left old added L c)

pub appended_there : (old new added : List Literal) → new ≡ old ++ added → AreAmong added new
appended_there old new added is L c = subst (λ xs. Contains xs L) (sym is) (Contains-append_right old added L c)

-- ---- what one past fact says

pub witness_named : (old mid new : List Literal) (P : Literal) (q : Reference) → past_name P ≡ Some q → mid ≡ old ++ P ∷ [] → new ≡ mid ++ Literal.Shared q ∷ [] → IsWitnessedIn new P
witness_named old mid new P q named first then = (
  pushed_among mid new (Literal.Shared q) then P (pushed_there old mid P first),
  λ r e. subst (λ n. Contains new (Literal.Shared n)) (same_name (past_name P) q r named e) (pushed_there mid new (Literal.Shared q) then),
)
  where
    unwrapped : Reference → Option Reference → Reference
    unwrapped d None = d
    unwrapped d (Some n) = n

    same_name : (o : Option Reference) (q r : Reference) → o ≡ Some q → o ≡ Some r → q ≡ r
    same_name o q r a b = ap (unwrapped q) (sym a ∙ b)

pub witness_nameless : (old new : List Literal) (P : Literal) → past_name P ≡ None → new ≡ old ++ P ∷ [] → IsWitnessedIn new P
witness_nameless old new P nameless is = (pushed_there old new P is, λ q e. absurd (none-some q (sym nameless ∙ e)))

-- ---- number after number

module _ (h : Header) (m : Method) (lasting presents : List Literal) (known : ℕ → Bool) where
  pub none_of_numbers : (all : List Literal) → AreAmong lasting all → AreAmong presents all → AreTogether h m lasting presents known 0 all
  none_of_numbers all lasts is_so = record { lasts = lasts; is_so = is_so; was_so = λ n P below is e. absurd (omega (arith, below)) }

  pub one_number : (count : ℕ) (all more : List Literal) → AreTogether h m lasting presents known count all → AreAmong all more
      → ((P : Literal) → IsNumbered h m count (Fact.Past P) → known count ≡ true → IsWitnessedIn more P) → AreTogether h m lasting presents known (count + 1) more
  one_number count all more so grows said = record {
    lasts = among_then lasting all more so.lasts grows;
    is_so = among_then presents all more so.is_so grows;
    was_so = λ n P below is e. elim (cases_eq n count) [
      | inl same ↦ said P (subst (λ k. IsNumbered h m k (Fact.Past P)) same is) (subst (λ k. known k ≡ true) same e)
      | inr other ↦ witnessed_then all all more P (so.was_so n P (omega (arith, below, other)) is e) grows
    ];
  }

-- ---- the rule

module _ (O : Outline) (m : Method) (lasting presents all : List Literal) (lasts : AreAmong lasting all) (is_so : AreAmong presents all) where
  shared_so : (p : Picture) (c : Caller) (P : Literal) → IsWitnessedIn all P → AllTrue (λ L. Contains all L) p c → is_node_shared p c P ≡ true
  shared_so p c P w each = by_name (past_name P) refl
    where
      by_name : (o : Option Reference) → past_name P ≡ o → option_map_or (λ q. p (Part.Shared (c.name q))) o true ≡ true
      by_name None e = refl
      by_name (Some q) e = (and_parts (not (p (Part.Null (c.name q)))) (p (Part.Shared (c.name q))) (each (Literal.Shared q) (w.1 q e))).1

  witness : (p : Picture) (c : Caller) (P : Literal) → IsWitnessedIn all P → AllTrue (λ L. Contains all L) p c → is_witnessed p c P ≡ true
  witness p c P w each = and_from (truth p c P) (is_node_shared p c P) (each P w.0) (shared_so p c P w each)

  -- what follows from a past fact follows from all together, whatever past fact is taken
  given_together : (first P C : Literal) → IsWitnessedIn all P → IsFollowing O m lasting presents P C → IsGiven O m all first None C
  given_together first P C w follows = record {
    fits = refl;
    already = λ p lawful each before is.
        let there = witness p (own_call m) P w each in
        let lasts_there = λ (K : Literal) (c : Contains lasting K). each K (lasts K c) in
        elim follows [
          | inl a ↦ a.already p lawful lasts_there there refl
          | inr v ↦ v.2.already p lawful lasts_there there (each v.0 (is_so v.0 v.1))
        ];
    later = λ b e. absurd (none-some b e);
  }

  pub all_used : (count : ℕ) (known : ℕ → Bool) → AreTogether O.header m lasting presents known count all → ((k : ℕ) (P : Literal) → IsNumbered O.header m k (Fact.Past P) → k < count)
      → (first : Literal) (more : ℕ → Bool) → AddsPast O.header m (IsGiven O m all first None) known more → IsWithin more known → (done : ℕ → Bool) → IsWithin done known
      → AreUsed O m lasting presents done known
  all_used count known so small first more adds within done few k j C e at w =
      within j (adds.added j C at (given_together first w.0 C (so.was_so k w.0 (small k w.0 w.1) w.1 (few k e)) w.2))

-- the numbers of a kind are below the limit
pub kind_small : (p : Program) (m : ℕ) (past : Bool) (k : ℕ) → kind_below p.header p.methods m past (64 * MARK_WORDS_PER_LOCATION) k ≡ true → k < 64 * MARK_WORDS_PER_LOCATION
kind_small p m past k e =
    let w = some_found (is_kind_at p.header p.methods m past k) (64 * MARK_WORDS_PER_LOCATION) e in
    let both = and_parts (is_of_kind past (fact_at p.header p.methods m w.0)) (k == w.0) w.2 in
    subst (λ i. i < 64 * MARK_WORDS_PER_LOCATION) (sym (eqb-true k w.0 both.1)) w.1
