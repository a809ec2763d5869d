-- What a lawful block reads is a name of its method.
use Rattle.std.proofs.Common.{◌≡◌, ℕ, Bool, true, List, [], ◌∷◌, length, refl, sym, ap, subst, inl, inr}
use Rattle.std.specs.Prelude.{◌&&◌, ◌||◌, nat_lt}
use Rattle.std.specs.List.{list_any, list_all}
use Rattle.std.proofs.lemmas.Bool.{false≢true, and_parts, or_cases, eqb-true}
use Rattle.plank_prog.specs.declared.headers.Header.{Header}
use Rattle.plank_prog.specs.declared.blocks.Reference.{Reference}
use Rattle.plank_prog.specs.declared.blocks.Value.{Value}
use Rattle.plank_prog.specs.declared.blocks.KeyOperand.{KeyOperand}
use Rattle.plank_prog.specs.declared.blocks.PointerOperand.{PointerOperand}
use Rattle.plank_prog.specs.declared.blocks.Test.{Test}
use Rattle.plank_prog.specs.declared.blocks.Bind.{Bind}
use Rattle.plank_prog.specs.declared.blocks.Write.{Write}
use Rattle.plank_prog.specs.declared.blocks.Block.{Block}
use Rattle.plank_prog.specs.Blocks.{same_reference, value_reads, key_reads, pointer_reads, test_reads, write_reads, block_reads, reference_fits, value_fits, flag_fits, key_fits, pointer_fits, test_fits, bind_fits, write_fits, block_parts_fit}

pub same_reference_true : (q r : Reference) → same_reference q r ≡ true → q ≡ r
same_reference_true Reference.Root Reference.Root e = refl
same_reference_true Reference.Root (Reference.Variable w) e = absurd (false≢true e)
same_reference_true (Reference.Variable v) Reference.Root e = absurd (false≢true e)
same_reference_true (Reference.Variable v) (Reference.Variable w) e = ap Reference.Variable (eqb-true v w e)

module _ (h : Header) (variables : ℕ) (r : Reference) where
  same_fits : (q : Reference) → same_reference r q ≡ true → reference_fits variables q ≡ true → reference_fits variables r ≡ true
  same_fits q e f = subst (λ p. reference_fits variables p ≡ true) (sym (same_reference_true r q e)) f

  pub value_so : (v : Value) → value_reads r v ≡ true → value_fits variables v ≡ true → reference_fits variables r ≡ true
  value_so Value.Null e f = absurd (false≢true e)
  value_so (Value.Node q) e f = same_fits q e f

  key_so : (o : KeyOperand) → key_reads r o ≡ true → key_fits variables o ≡ true → reference_fits variables r ≡ true
  key_so (KeyOperand.Node q) e f = same_fits q e f
  key_so KeyOperand.Argument e f = absurd (false≢true e)
  key_so KeyOperand.Min e f = absurd (false≢true e)
  key_so KeyOperand.Max e f = absurd (false≢true e)

  pointer_so : (o : PointerOperand) → pointer_reads r o ≡ true → pointer_fits h variables o ≡ true → reference_fits variables r ≡ true
  pointer_so PointerOperand.Null e f = absurd (false≢true e)
  pointer_so (PointerOperand.Node q) e f = same_fits q e f
  pointer_so (PointerOperand.Field q g) e f = same_fits q e (and_parts (reference_fits variables q) _ f).0

  test_so : (t : Test) → test_reads r t ≡ true → test_fits h variables t ≡ true → reference_fits variables r ≡ true
  test_so (Test.Flag flag set) e f = same_fits flag.node e (and_parts (reference_fits variables flag.node) _ f).0
  test_so (Test.Flags left right equal) e f =
      let w = and_parts (flag_fits h variables left) (flag_fits h variables right) f in
      elim (or_cases (same_reference r left.node) (same_reference r right.node) e) [
        | inl a ↦ same_fits left.node a (and_parts (reference_fits variables left.node) _ w.0).0
        | inr a ↦ same_fits right.node a (and_parts (reference_fits variables right.node) _ w.1).0
      ]
  test_so (Test.Keys left relation right) e f =
      let w = and_parts (key_fits variables left) (key_fits variables right) f in
      elim (or_cases (key_reads r left) (key_reads r right) e) [ inl a ↦ key_so left a w.0 | inr a ↦ key_so right a w.1 ]
  test_so (Test.Pointers left right equal) e f =
      let w = and_parts (pointer_fits h variables left) (pointer_fits h variables right) (and_parts (pointer_fits h variables left && pointer_fits h variables right) _ f).0 in
      elim (or_cases (pointer_reads r left) (pointer_reads r right) e) [ inl a ↦ pointer_so left a w.0 | inr a ↦ pointer_so right a w.1 ]
  test_so (Test.LockFree q) e f = same_fits q e (and_parts h.has_lock (reference_fits variables q) f).1
  test_so (Test.LockOwn q) e f = same_fits q e (and_parts h.has_lock (reference_fits variables q) f).1

  bind_so : (d : Bind) → same_reference r d.from ≡ true → bind_fits h variables d ≡ true → reference_fits variables r ≡ true
  bind_so d e f = same_fits d.from e (and_parts (nat_lt d.to variables) (reference_fits variables d.from) (and_parts (nat_lt d.to variables && reference_fits variables d.from) _ f).0).1

  write_so : (w : Write) → write_reads r w ≡ true → write_fits h variables w ≡ true → reference_fits variables r ≡ true
  write_so (Write.Flag q g to) e f = same_fits q e (and_parts (reference_fits variables q) _ f).0
  write_so (Write.Pointer q g to) e f =
      let w = and_parts (reference_fits variables q && nat_lt g (length h.pointers)) (value_fits variables to) f in
      elim (or_cases (same_reference r q) (value_reads r to) e) [ inl a ↦ same_fits q a (and_parts (reference_fits variables q) _ w.0).0 | inr a ↦ value_so to a w.1 ]
  write_so (Write.TakeLock q) e f = same_fits q e (and_parts h.has_lock (reference_fits variables q) f).1
  write_so (Write.FreeLock q) e f = same_fits q e (and_parts h.has_lock (reference_fits variables q) f).1

  one_so : {X : Type 0} (reads fits : X → Bool) → ((x : X) → reads x ≡ true → fits x ≡ true → reference_fits variables r ≡ true) → (xs : List X) → list_any reads xs ≡ true → list_all fits xs ≡ true → reference_fits variables r ≡ true
  one_so reads fits so [] e f = absurd (false≢true e)
  one_so reads fits so (x ∷ xs) e f =
      let w = and_parts (fits x) (list_all fits xs) f in
      elim (or_cases (reads x) (list_any reads xs) e) [ inl a ↦ so x a w.0 | inr a ↦ one_so reads fits so xs a w.1 ]

  pub block_so : (b : Block) → block_reads b r ≡ true → block_parts_fit h variables b ≡ true → reference_fits variables r ≡ true
  block_so b e f =
      let w3 = and_parts _ (list_all (write_fits h variables) b.writes) f in
      let w2 = and_parts _ (list_all (bind_fits h variables) b.binds) w3.0 in
      let w1 = and_parts (list_all (reference_fits variables) b.with) (list_all (test_fits h variables) b.tests) w2.0 in
      elim (or_cases (list_any (λ q. same_reference r q) b.with || list_any (λ t. test_reads r t) b.tests || list_any (λ (d : Bind). same_reference r d.from) b.binds) (list_any (λ v. write_reads r v) b.writes) e) [
        | inr a ↦ one_so (λ v. write_reads r v) (write_fits h variables) write_so b.writes a w3.1
        | inl a ↦ elim (or_cases (list_any (λ q. same_reference r q) b.with || list_any (λ t. test_reads r t) b.tests) (list_any (λ (d : Bind). same_reference r d.from) b.binds) a) [
          | inr c ↦ one_so (λ (d : Bind). same_reference r d.from) (bind_fits h variables) bind_so b.binds c w2.1
          | inl c ↦ elim (or_cases (list_any (λ q. same_reference r q) b.with) (list_any (λ t. test_reads r t) b.tests) c) [
            | inl g ↦ one_so (λ q. same_reference r q) (reference_fits variables) same_fits b.with g w1.0
            | inr g ↦ one_so (λ t. test_reads r t) (test_fits h variables) test_so b.tests g w1.1
          ]
        ]
      ]
