-- The parts of blocks name parts that are there, and each block may stand in its method.
use Rattle.std.proofs.Common.{◌≡◌, ℕ, Bool, true, false, not, ◌&&◌, ◌||◌, List, [], ◌∷◌, length, map, filter_map, Option, Some, None, refl, ◌∙◌, ap, if◌then◌else◌}
use Rattle.std.specs.Prelude.{nat_lt}
use Rattle.std.specs.List.{list_all, list_any, cons_option}
use Rattle.std.specs.Option.{option_map_or, option_map, option_to_list}
use Rattle.std.specs.Cmp.{first_so, second_so}
use Rattle.plank_ast.specs.declared.names.Reference.{Reference as ReferenceTree}
use Rattle.plank_ast.specs.declared.names.Field.{Field}
use Rattle.plank_ast.specs.declared.conditions.Comparison.{Comparison}
use Rattle.plank_ast.specs.declared.conditions.Operand.{Operand}
use Rattle.plank_ast.specs.declared.conditions.AtomEnd.{AtomEnd}
use Rattle.plank_ast.specs.declared.statements.With.{With}
use Rattle.plank_ast.specs.declared.statements.Test.{Test as TestTree}
use Rattle.plank_ast.specs.declared.statements.Tests.{Tests}
use Rattle.plank_ast.specs.declared.statements.Block.{Block as BlockTree}
use Rattle.plank_ast.specs.declared.statements.Written.{Written}
use Rattle.plank_ast.specs.declared.statements.Write.{Write as WriteTree}
use Rattle.plank_ast.specs.declared.statements.Assigned.{Assigned}
use Rattle.plank_prog.specs.declared.headers.Header.{Header}
use Rattle.plank_prog.specs.declared.blocks.Reference.{Reference}
use Rattle.plank_prog.specs.declared.blocks.Value.{Value}
use Rattle.plank_prog.specs.declared.blocks.PointerOperand.{PointerOperand}
use Rattle.plank_prog.specs.declared.blocks.KeyOperand.{KeyOperand}
use Rattle.plank_prog.specs.declared.blocks.Test.{Test}
use Rattle.plank_prog.specs.declared.blocks.Bind.{Bind}
use Rattle.plank_prog.specs.declared.blocks.Write.{Write}
use Rattle.plank_prog.specs.declared.blocks.Block.{Block}
use Rattle.plank_prog.specs.declared.methods.Action.{Action}
use Rattle.plank_prog.specs.Names.{all_pairs}
use Rattle.plank_prog.specs.Blocks.{same_reference, reference_fits, flag_fits, key_fits, pointer_fits, is_field, test_fits, bind_fits, write_fits, block_parts_fit, binds_stand_alone, writes_agree, tests_lock, writes_lock, locks_stand_alone, is_lock_statement, is_lawful_block}
use Rattle.plank_prog.specs.Methods.{is_lawful_action}
use Rattle.plank_rules.specs.Declarations.{number_of}
use Rattle.plank_rules.specs.declared.names.Declared.{Declared}
use Rattle.plank_type.specs.declared.operands.Meaning.{Meaning}
use Rattle.plank_type.specs.Conditions.{is_equality}
use Rattle.plank_type.specs.Operands.{reference_of, with_of, field_meaning, alone_meaning, node_meaning, meaning_of, no_test, test_compared, test_alone, test_ended, test_of, bind_to, read_of, bind_of, written_of, write_of, writes_of}
use Rattle.plank_type.specs.Statements.{idle_block, read_block, assignment, atomic_block, tests_block, take_lock, free_lock}
use Rattle.plank_type.proofs.Tests.{and_so, both_true, not_true, all_map, all_so}
use Rattle.plank_type.proofs.Tests.{or_left, or_right}
use Rattle.plank_type.proofs.NamesOnce.{number_so}
use Rattle.plank_type.proofs.KnownNames.{same_self}
use Rattle.plank_type.proofs.BlockNames.{LawfulNames, ReadsLawfully}

-- a header with as many fields as names, and a lock where the names have one
pub record Fitting (h : Header) (names : Declared) : Type 0 where
  pub flags : length h.flags ≡ length names.flags
  pub pointers : length h.pointers ≡ length names.pointers
  pub has_lock : h.has_lock ≡ names.has_lock

-- ---- what is given

mapped_or : {A : Type 0} (test : A → Bool) (f : ℕ → A) (o : Option ℕ) → option_map_or test (option_map f o) true ≡ option_map_or (λ i. test (f i)) o true
mapped_or test f None = refl
mapped_or test f (Some i) = refl

kept_one : {Y : Type 0} (test : Y → Bool) (o : Option Y) (rest : List Y) → option_map_or test o true ≡ true → list_all test rest ≡ true → list_all test (cons_option o rest) ≡ true
kept_one test None rest h k = k
kept_one test (Some y) rest h k = and_so (test y) (list_all test rest) h k

pub kept_so : {X Y : Type 0} (test : Y → Bool) (f : X → Option Y) → ((x : X) → option_map_or test (f x) true ≡ true) → (xs : List X) → list_all test (filter_map f xs) ≡ true
kept_so test f so [] = refl
kept_so test f so (x ∷ xs) = kept_one test (f x) (filter_map f xs) (so x) (kept_so test f so xs)

or_not : (a b : Bool) → a ≡ false → b ≡ false → (a || b) ≡ false
or_not true b h k = h
or_not false b h k = k

module _ (h : Header) (names : Declared) (fitting : Fitting h names) (variables : List (List ℕ)) where
  abbrev v : ℕ
  v = length variables

  reference_fit : (q : ReferenceTree) → reference_fits v (reference_of variables q) ≡ true
  reference_fit (ReferenceTree.Root place) = refl
  reference_fit (ReferenceTree.Name name) = number_so (reference_fits v) Reference.Variable Reference.Root name.label variables (λ i below. below) refl

  flag_below : (i : ℕ) → nat_lt i (length names.flags) ≡ true → nat_lt i (length h.flags) ≡ true
  flag_below i below = ap (nat_lt i) fitting.flags ∙ below

  pointer_below : (i : ℕ) → nat_lt i (length names.pointers) ≡ true → nat_lt i (length h.pointers) ≡ true
  pointer_below i below = ap (nat_lt i) fitting.pointers ∙ below

  -- ---- operands

  abbrev meaning_fits : Meaning → Bool
  meaning_fits (Meaning.Flag f) = flag_fits h v f
  meaning_fits (Meaning.Key k) = key_fits v k
  meaning_fits (Meaning.Pointer p) = pointer_fits h v p
  meaning_fits Meaning.Nothing = true

  field_fit : (node : Reference) (field : List ℕ) → reference_fits v node ≡ true → meaning_fits (field_meaning names node field) ≡ true
  field_fit node field fits =
      number_so meaning_fits (λ f. Meaning.Flag (record { node = node; flag = f }))
      (option_map_or (λ p. Meaning.Pointer (PointerOperand.Field node p)) (number_of field names.pointers) Meaning.Nothing) field names.flags
      (λ i below. and_so (reference_fits v node) (nat_lt i (length h.flags)) fits (flag_below i below))
      (number_so meaning_fits (λ p. Meaning.Pointer (PointerOperand.Field node p)) Meaning.Nothing field names.pointers
      (λ i below. and_so (reference_fits v node) (nat_lt i (length h.pointers)) fits (pointer_below i below)) refl)

  alone_fit : (q : ReferenceTree) → meaning_fits (alone_meaning variables q) ≡ true
  alone_fit (ReferenceTree.Root place) = refl
  alone_fit (ReferenceTree.Name name) =
      number_so meaning_fits (λ i. Meaning.Pointer (PointerOperand.Node (Reference.Variable i))) (Meaning.Key KeyOperand.Argument) name.label variables
      (λ i below. below) refl

  node_fit : (q : ReferenceTree) (field : Option Field) → meaning_fits (node_meaning names variables q field) ≡ true
  node_fit q None = alone_fit q
  node_fit q (Some (Field.Key place)) = reference_fit q
  node_fit q (Some (Field.Name f)) = field_fit (reference_of variables q) f.label (reference_fit q)

  operand_fit : (o : Operand) → meaning_fits (meaning_of names variables o) ≡ true
  operand_fit (Operand.Node node field) = node_fit node field
  operand_fit (Operand.Min place) = refl
  operand_fit (Operand.Max place) = refl
  operand_fit (Operand.Null place) = refl

  -- ---- tests

  fields_not_compared : (both : Bool) (a b : PointerOperand) (equal : Bool) → (is_field a && is_field b) ≡ both → pointer_fits h v a ≡ true → pointer_fits h v b ≡ true → test_fits h v (if both then no_test else Test.Pointers a b equal) ≡ true
  fields_not_compared true a b equal e x y = refl
  fields_not_compared false a b equal e x y = both_true (both_true x y) (ap not e)

  compared_fit : (a : Meaning) (c : Comparison) (b : Meaning) → meaning_fits a ≡ true → meaning_fits b ≡ true → test_fits h v (test_compared a c b) ≡ true
  compared_fit (Meaning.Flag a) c (Meaning.Flag b) x y = both_true x y
  compared_fit (Meaning.Key a) c (Meaning.Key b) x y = both_true x y
  compared_fit (Meaning.Pointer a) c (Meaning.Pointer b) x y = fields_not_compared (is_field a && is_field b) a b (is_equality c) refl x y
  compared_fit (Meaning.Flag a) c (Meaning.Key b) x y = refl
  compared_fit (Meaning.Flag a) c (Meaning.Pointer b) x y = refl
  compared_fit (Meaning.Flag a) c Meaning.Nothing x y = refl
  compared_fit (Meaning.Key a) c (Meaning.Flag b) x y = refl
  compared_fit (Meaning.Key a) c (Meaning.Pointer b) x y = refl
  compared_fit (Meaning.Key a) c Meaning.Nothing x y = refl
  compared_fit (Meaning.Pointer a) c (Meaning.Flag b) x y = refl
  compared_fit (Meaning.Pointer a) c (Meaning.Key b) x y = refl
  compared_fit (Meaning.Pointer a) c Meaning.Nothing x y = refl
  compared_fit Meaning.Nothing c b x y = refl

  alone_test_fit : (set : Bool) (m : Meaning) → meaning_fits m ≡ true → test_fits h v (test_alone set m) ≡ true
  alone_test_fit set (Meaning.Flag f) x = x
  alone_test_fit set (Meaning.Key k) x = refl
  alone_test_fit set (Meaning.Pointer p) x = refl
  alone_test_fit set Meaning.Nothing x = refl

  ended_fit : (m : Meaning) (end : AtomEnd) → meaning_fits m ≡ true → test_fits h v (test_ended names variables m end) ≡ true
  ended_fit m AtomEnd.Nothing x = alone_test_fit true m x
  ended_fit m (AtomEnd.Compared comparison place second) x = compared_fit m comparison (meaning_of names variables second) x (operand_fit second)
  ended_fit m (AtomEnd.In place node) x = refl

  test_fit : (t : TestTree) → test_fits h v (test_of names variables t) ≡ true
  test_fit (TestTree.Not place node field) = alone_test_fit false (field_meaning names (reference_of variables node) field.label) (field_fit (reference_of variables node) field.label (reference_fit node))
  test_fit (TestTree.Atom atom) = ended_fit (meaning_of names variables atom.operand) atom.end (operand_fit atom.operand)

  -- no test of a block asks for a lock

  pointers_no_lock : (both : Bool) (a b : PointerOperand) (equal : Bool) → tests_lock (if both then no_test else Test.Pointers a b equal) ≡ false
  pointers_no_lock true a b equal = refl
  pointers_no_lock false a b equal = refl

  compared_no_lock : (a : Meaning) (c : Comparison) (b : Meaning) → tests_lock (test_compared a c b) ≡ false
  compared_no_lock (Meaning.Flag a) c (Meaning.Flag b) = refl
  compared_no_lock (Meaning.Key a) c (Meaning.Key b) = refl
  compared_no_lock (Meaning.Pointer a) c (Meaning.Pointer b) = pointers_no_lock (is_field a && is_field b) a b (is_equality c)
  compared_no_lock (Meaning.Flag a) c (Meaning.Key b) = refl
  compared_no_lock (Meaning.Flag a) c (Meaning.Pointer b) = refl
  compared_no_lock (Meaning.Flag a) c Meaning.Nothing = refl
  compared_no_lock (Meaning.Key a) c (Meaning.Flag b) = refl
  compared_no_lock (Meaning.Key a) c (Meaning.Pointer b) = refl
  compared_no_lock (Meaning.Key a) c Meaning.Nothing = refl
  compared_no_lock (Meaning.Pointer a) c (Meaning.Flag b) = refl
  compared_no_lock (Meaning.Pointer a) c (Meaning.Key b) = refl
  compared_no_lock (Meaning.Pointer a) c Meaning.Nothing = refl
  compared_no_lock Meaning.Nothing c b = refl

  alone_no_lock : (set : Bool) (m : Meaning) → tests_lock (test_alone set m) ≡ false
  alone_no_lock set (Meaning.Flag f) = refl
  alone_no_lock set (Meaning.Key k) = refl
  alone_no_lock set (Meaning.Pointer p) = refl
  alone_no_lock set Meaning.Nothing = refl

  ended_no_lock : (m : Meaning) (end : AtomEnd) → tests_lock (test_ended names variables m end) ≡ false
  ended_no_lock m AtomEnd.Nothing = alone_no_lock true m
  ended_no_lock m (AtomEnd.Compared comparison place second) = compared_no_lock m comparison (meaning_of names variables second)
  ended_no_lock m (AtomEnd.In place node) = refl

  test_no_lock : (t : TestTree) → tests_lock (test_of names variables t) ≡ false
  test_no_lock (TestTree.Not place node field) = alone_no_lock false (field_meaning names (reference_of variables node) field.label)
  test_no_lock (TestTree.Atom atom) = ended_no_lock (meaning_of names variables atom.operand) atom.end

  no_locks : {X : Type 0} (f : X → TestTree) (xs : List X) → list_any tests_lock (map (λ x. test_of names variables (f x)) xs) ≡ false
  no_locks f [] = refl
  no_locks f (x ∷ xs) =
      or_not (tests_lock (test_of names variables (f x))) (list_any tests_lock (map (λ y. test_of names variables (f y)) xs)) (test_no_lock (f x)) (no_locks f xs)

  -- ---- binds and writes

  bound_fit : (from : Reference) → reference_fits v from ≡ true → (to pointer : Option ℕ) → option_map_or (λ i. nat_lt i v) to true ≡ true → option_map_or (λ i. nat_lt i (length h.pointers)) pointer true ≡ true → option_map_or (bind_fits h v) (bind_to to from pointer) true ≡ true
  bound_fit from fits (Some to) (Some pointer) x y = both_true (both_true x fits) y
  bound_fit from fits None pointer x y = refl
  bound_fit from fits (Some to) None x y = refl

  read_fit : (variable : List ℕ) (node : ReferenceTree) (field : List ℕ) → option_map_or (bind_fits h v) (read_of names variables variable node field) true ≡ true
  read_fit variable node field =
      bound_fit (reference_of variables node) (reference_fit node) (number_of variable variables) (number_of field names.pointers)
      (number_so (λ b. b) (λ i. nat_lt i v) true variable variables (λ i below. below) refl)
      (number_so (λ b. b) (λ i. nat_lt i (length h.pointers)) true field names.pointers pointer_below refl)

  written_fit : (node : Reference) (field : List ℕ) (value : Written) → reference_fits v node ≡ true → option_map_or (write_fits h v) (written_of names variables node field value) true ≡ true
  written_fit node field (Written.Flag truth) fits =
      mapped_or (write_fits h v) (λ f. Write.Flag node f truth.value) (number_of field names.flags)
      ∙ number_so (λ b. b) (λ f. write_fits h v (Write.Flag node f truth.value)) true field names.flags
      (λ i below. and_so (reference_fits v node) (nat_lt i (length h.flags)) fits (flag_below i below)) refl
  written_fit node field (Written.Null place) fits =
      mapped_or (write_fits h v) (λ p. Write.Pointer node p Value.Null) (number_of field names.pointers)
      ∙ number_so (λ b. b) (λ p. write_fits h v (Write.Pointer node p Value.Null)) true field names.pointers
      (λ i below. both_true (both_true fits (pointer_below i below)) refl) refl
  written_fit node field (Written.Node to) fits =
      mapped_or (write_fits h v) (λ p. Write.Pointer node p (Value.Node (reference_of variables to))) (number_of field names.pointers)
      ∙ number_so (λ b. b) (λ p. write_fits h v (Write.Pointer node p (Value.Node (reference_of variables to)))) true field names.pointers
      (λ i below. both_true (both_true fits (pointer_below i below)) (reference_fit to)) refl

  write_fit : (w : WriteTree) → option_map_or (write_fits h v) (write_of names variables w) true ≡ true
  write_fit w = written_fit (reference_of variables w.node) w.field.label w.value (reference_fit w.node)

  written_no_lock : (node : Reference) (field : List ℕ) (value : Written) → option_map_or (λ w. not (writes_lock w)) (written_of names variables node field value) true ≡ true
  written_no_lock node field (Written.Flag truth) =
      mapped_or (λ w. not (writes_lock w)) (λ f. Write.Flag node f truth.value) (number_of field names.flags)
      ∙ number_so (λ b. b) (λ f. true) true field names.flags (λ i below. refl) refl
  written_no_lock node field (Written.Null place) =
      mapped_or (λ w. not (writes_lock w)) (λ p. Write.Pointer node p Value.Null) (number_of field names.pointers)
      ∙ number_so (λ b. b) (λ p. true) true field names.pointers (λ i below. refl) refl
  written_no_lock node field (Written.Node to) =
      mapped_or (λ w. not (writes_lock w)) (λ p. Write.Pointer node p (Value.Node (reference_of variables to))) (number_of field names.pointers)
      ∙ number_so (λ b. b) (λ p. true) true field names.pointers (λ i below. refl) refl

  with_fit : (w : Option With) → list_all (reference_fits v) (with_of variables w) ≡ true
  with_fit None = refl
  with_fit (Some w) =
      both_true (reference_fit w.first) (all_map (reference_fits v) (reference_of variables) w.others ∙ all_so (λ q. reference_fits v (reference_of variables q)) reference_fit w.others)

  -- ---- blocks, whose exits are locations of the method

  block_so : (n : ℕ) (b : Block) → block_parts_fit h v b ≡ true → nat_lt b.yes n ≡ true → nat_lt b.no n ≡ true → LawfulNames b → locks_stand_alone b ≡ true → is_lawful_block h v n b ≡ true
  block_so n b parts met other named locks =
      let apart = all_pairs (λ q r. not (same_reference q r)) b.with in
      let alone = binds_stand_alone b in
      let agree = all_pairs writes_agree b.writes in
      let front = block_parts_fit h v b && nat_lt b.yes n && nat_lt b.no n in
      and_so (front && apart && alone && agree) (locks_stand_alone b)
      (and_so (front && apart && alone) agree
      (and_so (front && apart) alone
      (and_so front apart
      (and_so (block_parts_fit h v b && nat_lt b.yes n) (nat_lt b.no n) (and_so (block_parts_fit h v b) (nat_lt b.yes n) parts met) other)
      named.apart) named.alone) named.agree)
      locks

  idle_so : (n met other : ℕ) → nat_lt met n ≡ true → nat_lt other n ≡ true → is_lawful_block h v n (idle_block met other) ≡ true
  idle_so n met other x y = block_so n (idle_block met other) refl x y (record { apart = refl; alone = refl; agree = refl }) refl

  parts_so : (b : Block) → list_all (reference_fits v) b.with ≡ true → list_all (test_fits h v) b.tests ≡ true → list_all (bind_fits h v) b.binds ≡ true → list_all (write_fits h v) b.writes ≡ true → block_parts_fit h v b ≡ true
  parts_so b w t d x =
      and_so (list_all (reference_fits v) b.with && list_all (test_fits h v) b.tests && list_all (bind_fits h v) b.binds) (list_all (write_fits h v) b.writes)
      (and_so (list_all (reference_fits v) b.with && list_all (test_fits h v) b.tests) (list_all (bind_fits h v) b.binds)
      (and_so (list_all (reference_fits v) b.with) (list_all (test_fits h v) b.tests) w t) d) x

  no_locks_so : (b : Block) → list_any tests_lock b.tests ≡ false → list_any writes_lock b.writes ≡ false → locks_stand_alone b ≡ true
  no_locks_so b t w =
      or_right (is_lock_statement b) (not (list_any tests_lock b.tests || list_any writes_lock b.writes))
      (ap not (or_not (list_any tests_lock b.tests) (list_any writes_lock b.writes) t w))

  tests_so : (ts : List TestTree) → list_all (test_fits h v) (map (test_of names variables) ts) ≡ true
  tests_so ts = all_map (test_fits h v) (test_of names variables) ts ∙ all_so (λ t. test_fits h v (test_of names variables t)) test_fit ts

  pub tests_block_so : (n : ℕ) (ts : Tests) (met other : ℕ) → nat_lt met n ≡ true → nat_lt other n ≡ true → is_lawful_block h v n (tests_block names variables ts met other) ≡ true
  tests_block_so n ts met other x y =
      block_so n (tests_block names variables ts met other)
      (parts_so (tests_block names variables ts met other) refl (tests_so (ts.first ∷ ts.others)) refl refl)
      x y (record { apart = refl; alone = refl; agree = refl }) (no_locks_so (tests_block names variables ts met other) (no_locks (λ t. t) (ts.first ∷ ts.others)) refl)

  take_if : (n : ℕ) (node : Reference) (met other : ℕ) (locks : Bool) → h.has_lock ≡ locks → reference_fits v node ≡ true → nat_lt met n ≡ true → nat_lt other n ≡ true → is_lawful_block h v n (if locks then (record { with = []; tests = Test.LockFree node ∷ []; binds = []; writes = Write.TakeLock node ∷ []; yes = met; no = other }) else idle_block met other) ≡ true
  take_if n node met other false e fits x y = idle_so n met other x y
  take_if n node met other true e fits x y =
      let b : Block = record { with = []; tests = Test.LockFree node ∷ []; binds = []; writes = Write.TakeLock node ∷ []; yes = met; no = other } in
      let part = and_so (h.has_lock) (reference_fits v node) e fits in
      block_so n b (parts_so b refl (and_so (h.has_lock && reference_fits v node) true part refl) refl (and_so (h.has_lock && reference_fits v node) true part refl))
      x y (record { apart = refl; alone = refl; agree = refl }) (or_left (is_lock_statement b) (not (list_any tests_lock b.tests || list_any writes_lock b.writes)) (same_self node))

  free_if : (n : ℕ) (node : Reference) (met other : ℕ) (locks : Bool) → h.has_lock ≡ locks → reference_fits v node ≡ true → nat_lt met n ≡ true → nat_lt other n ≡ true → is_lawful_block h v n (if locks then (record { with = []; tests = Test.LockOwn node ∷ []; binds = []; writes = Write.FreeLock node ∷ []; yes = met; no = other }) else idle_block met other) ≡ true
  free_if n node met other false e fits x y = idle_so n met other x y
  free_if n node met other true e fits x y =
      let b : Block = record { with = []; tests = Test.LockOwn node ∷ []; binds = []; writes = Write.FreeLock node ∷ []; yes = met; no = other } in
      let part = and_so (h.has_lock) (reference_fits v node) e fits in
      block_so n b (parts_so b refl (and_so (h.has_lock && reference_fits v node) true part refl) refl (and_so (h.has_lock && reference_fits v node) true part refl))
      x y (record { apart = refl; alone = refl; agree = refl }) (or_left (is_lock_statement b) (not (list_any tests_lock b.tests || list_any writes_lock b.writes)) (same_self node))

  pub take_so : (n : ℕ) (q : ReferenceTree) (met other : ℕ) → nat_lt met n ≡ true → nat_lt other n ≡ true → is_lawful_block h v n (take_lock names (reference_of variables q) met other) ≡ true
  take_so n q met other x y = take_if n (reference_of variables q) met other names.has_lock fitting.has_lock (reference_fit q) x y

  pub free_so : (n : ℕ) (q : ReferenceTree) (met other : ℕ) → nat_lt met n ≡ true → nat_lt other n ≡ true → is_lawful_block h v n (free_lock names (reference_of variables q) met other) ≡ true
  free_so n q met other x y = free_if n (reference_of variables q) met other names.has_lock fitting.has_lock (reference_fit q) x y

  one_bind_so : (o : Option Bind) → option_map_or (bind_fits h v) o true ≡ true → list_all (bind_fits h v) (option_to_list o) ≡ true
  one_bind_so None x = refl
  one_bind_so (Some d) x = and_so (bind_fits h v d) true x refl

  pub read_so : (n : ℕ) (variable : List ℕ) (node : ReferenceTree) (field : List ℕ) (next : ℕ) → nat_lt next n ≡ true → LawfulNames (read_block names variables variable node field next) → is_lawful_block h v n (read_block names variables variable node field next) ≡ true
  read_so n variable node field next x named =
      let b : Block = read_block names variables variable node field next in
      block_so n b (parts_so b refl refl (one_bind_so (read_of names variables variable node field) (read_fit variable node field)) refl) x x named (no_locks_so b refl refl)

  none_of : (ws : List Write) → list_all (λ w. not (writes_lock w)) ws ≡ true → list_any writes_lock ws ≡ false
  none_of [] x = refl
  none_of (w ∷ ws) x =
      or_not (writes_lock w) (list_any writes_lock ws)
      (not_true (writes_lock w) (first_so (not (writes_lock w)) (list_all (λ y. not (writes_lock y)) ws) x))
      (none_of ws (second_so (not (writes_lock w)) (list_all (λ y. not (writes_lock y)) ws) x))

  pub atomic_so : (n : ℕ) (tree : BlockTree) (met other : ℕ) → nat_lt met n ≡ true → nat_lt other n ≡ true → LawfulNames (atomic_block names variables tree met other) → is_lawful_block h v n (atomic_block names variables tree met other) ≡ true
  atomic_so n tree met other x y named =
      let b : Block = atomic_block names variables tree met other in
      block_so n b
      (parts_so b (with_fit tree.with)
      (all_map (test_fits h v) (λ line. test_of names variables line.test) tree.tests ∙ all_so (λ line. test_fits h v (test_of names variables line.test)) (λ line. test_fit line.test) tree.tests)
      (kept_so (bind_fits h v) (bind_of names variables) (λ d. read_fit d.variable.label d.node d.field.label) tree.binds)
      (kept_so (write_fits h v) (write_of names variables) write_fit tree.writes))
      x y named
      (no_locks_so b (no_locks (λ line. line.test) tree.tests)
      (none_of (writes_of names variables tree.writes)
      (kept_so (λ u. not (writes_lock u)) (write_of names variables) (λ u. written_no_lock (reference_of variables u.node) u.field.label u.value) tree.writes)))

  -- ---- assignments

  pub assignment_so : (n : ℕ) (variable : List ℕ) (value : Assigned) (next : ℕ) → nat_lt next n ≡ true → ReadsLawfully names variables variable value next → is_lawful_action h v n (assignment names variables variable value next) ≡ true
  assignment_so n variable (Assigned.New place) next x named =
      number_so (is_lawful_action h v n) (λ to. Action.New to next) (Action.Block (idle_block next next)) variable variables
      (λ i below. and_so (nat_lt i v) (nat_lt next n) below x) (idle_so n next next x x)
  assignment_so n variable (Assigned.Null place) next x named =
      number_so (is_lawful_action h v n) (λ to. Action.Copy to Value.Null next) (Action.Block (idle_block next next)) variable variables
      (λ i below. and_so (nat_lt i v && true) (nat_lt next n) (and_so (nat_lt i v) true below refl) x) (idle_so n next next x x)
  assignment_so n variable (Assigned.Node node None) next x named =
      number_so (is_lawful_action h v n) (λ to. Action.Copy to (Value.Node (reference_of variables node)) next) (Action.Block (idle_block next next)) variable variables
      (λ i below. and_so (nat_lt i v && reference_fits v (reference_of variables node)) (nat_lt next n) (and_so (nat_lt i v) (reference_fits v (reference_of variables node)) below (reference_fit node)) x)
      (idle_so n next next x x)
  assignment_so n variable (Assigned.Node node (Some field)) next x named = read_so n variable node field.label next x named
