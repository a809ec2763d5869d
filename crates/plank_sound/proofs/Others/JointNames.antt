-- The variables that a block reads have names of their own in a picture of two calls.
use Rattle.std.proofs.Common.{◌≡◌, ℕ, zero, suc, ◌+◌, ◌-◌, ◌<◌, ◌≤◌, ◌==◌, true, false, Option, Some, refl, sym, ◌∙◌, ap, subst, inl, inr, arith}
use Rattle.std.specs.Prelude.{◌&&◌, nat_lt, slice_get, option_and_then}
use Rattle.std.specs.Option.{option_flatten}
use Rattle.std.proofs.lemmas.Bool.{and_from, and_right, cases_Bool, cases_eq, eq-eqb, ne_eqb, lt-ltb, le-ltb, cond-true, cond-false}
use Rattle.plank_prog.specs.declared.blocks.Reference.{Reference}
use Rattle.plank_prog.specs.declared.blocks.Block.{Block}
use Rattle.plank_prog.specs.Blocks.{block_reads}
use Rattle.plank_sem.specs.declared.calls.Call.{Call}
use Rattle.plank_fact.specs.Effects.{read_below}
use Rattle.plank_scene.specs.Turns.{number}
use Rattle.plank_sound.specs.JointNames.{reader, read_value, joint_named}

module _ (b : Block) where
  abbrev Reads : ℕ → Type 0
  Reads w = block_reads b (Reference.Variable w) ≡ true

  counted : (w : ℕ) → Reads w → read_below b (suc w) ≡ suc (read_below b w)
  counted w reads = ap (λ k. read_below b w + k) (cond-true (block_reads b (Reference.Variable w)) 1 0 reads) ∙ (omega arith)

  more : (w : ℕ) → read_below b w ≤ read_below b (suc w)
  more w = elim (cases_Bool (block_reads b (Reference.Variable w))) [
    | inl yes_reads ↦ (let e = counted w yes_reads in omega (arith, e))
    | inr not_read ↦ (let e : read_below b (suc w) ≡ read_below b w + 0 = ap (λ k. read_below b w + k) (cond-false (block_reads b (Reference.Variable w)) 1 0 not_read) in omega (arith, e))
  ]

  -- a variable that is read counts for each later one
  pub rises : (w u : ℕ) → w < u → Reads w → read_below b w < read_below b u
  rises w zero lt reads = absurd (omega arith)
  rises w (suc u) lt reads = elim (cases_eq w u) [
    | inl same ↦ subst (λ v. read_below b w < read_below b (suc v)) same (let e = counted w reads in omega (arith, e))
    | inr other ↦ (let le = more u in let below = rises w u (omega arith) reads in omega (arith, le, below))
  ]

  pub reader_is : (variables w : ℕ) → w < variables → Reads w → reader b variables (read_below b w) ≡ Some w
  reader_is zero w lt reads = absurd (omega arith)
  reader_is (suc u) w lt reads = elim (cases_eq w u) [
    | inl same ↦ ap (λ v. reader b (suc v) (read_below b w)) (sym same)
        ∙ cond-true (block_reads b (Reference.Variable w) && (read_below b w == read_below b w)) (Some w) (reader b w (read_below b w)) (and_from _ _ reads (eq-eqb (read_below b w) (read_below b w) refl))
    | inr other ↦
        let below : w < u = omega arith in
        let apart : read_below b u ≡ read_below b w → ⊥ = λ e. (let lt = rises w u below reads in absurd (omega (arith, lt, e))) in
        cond-false (block_reads b (Reference.Variable u) && (read_below b u == read_below b w)) (Some u) (reader b u (read_below b w)) (and_right (block_reads b (Reference.Variable u)) _ (ne_eqb (read_below b u) (read_below b w) apart))
        ∙ reader_is u w below reads
  ]

  module _ (n : ℕ) (named : ℕ → Option ℕ) (variables : ℕ) (acting : Call) where
    pub own_is : (i : ℕ) → i < n → joint_named n named b variables acting i ≡ named i
    own_is i bi = cond-true (nat_lt i n) (named i) (read_value b variables acting (i - n)) (lt-ltb i n bi)

    pub theirs_is : (k : ℕ) → joint_named n named b variables acting (n + k) ≡ read_value b variables acting k
    theirs_is k =
        let past : nat_lt (n + k) n ≡ false = le-ltb (n + k) n (omega arith) in
        let rest : (n + k) - n ≡ k = omega arith in
        cond-false (nat_lt (n + k) n) (named (n + k)) (read_value b variables acting ((n + k) - n)) past ∙ ap (read_value b variables acting) rest

    pub read_is : (w : ℕ) → w < variables → Reads w → joint_named n named b variables acting (n + read_below b w) ≡ number (option_flatten (slice_get acting.variables w))
    read_is w lt reads = theirs_is (read_below b w) ∙ ap (option_and_then (λ v. number (option_flatten (slice_get acting.variables v)))) (reader_is variables w lt reads)
