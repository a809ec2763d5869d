-- Where a block breaks no rule of typing, its further names differ, a variable that it binds occurs once, and its writes
-- are of one node and of different fields.
use Rattle.std.proofs.Common.{◌≡◌, ℕ, true, false, not, List, [], ◌∷◌, ◌++◌, Option, Some, None, refl, subst}
use Rattle.std.specs.Prelude.{⊤}
use Rattle.std.specs.List.{flat_map, cons_option}
use Rattle.std.specs.Option.{option_to_list}
use Rattle.plank_lex.specs.declared.words.Reserved.TheVariants as word
use Rattle.plank_lex.specs.Spelling.{word_of}
use Rattle.plank_ast.specs.declared.names.Name.{Name}
use Rattle.plank_ast.specs.declared.names.Reference.{Reference as ReferenceTree}
use Rattle.plank_ast.specs.declared.statements.Assigned.{Assigned}
use Rattle.plank_ast.specs.declared.statements.Bind.{Bind as BindTree}
use Rattle.plank_ast.specs.declared.statements.Block.{Block as BlockTree}
use Rattle.plank_ast.specs.declared.methods.Method.{Method}
use Rattle.plank_ast.specs.declared.texts.Text.{Text}
use Rattle.plank_prog.specs.declared.blocks.Bind.{Bind}
use Rattle.plank_prog.specs.declared.blocks.Block.{Block}
use Rattle.plank_prog.specs.Names.{all_pairs}
use Rattle.plank_prog.specs.Blocks.{same_reference, binds_stand_alone, writes_agree}
use Rattle.plank_rules.specs.Declarations.{is_among, variables_of}
use Rattle.plank_rules.specs.StatementRules.{name_rules, read_rules, test_line_rules, bind_rules, writes_rules, optional_with_rules, block_reuses, block_rules, read_reuses, read_statement_rules, assign_rules}
use Rattle.plank_rules.specs.MethodRules.{method_scope}
use Rattle.plank_rules.specs.BrokenRules.{declared_by as rules_header}
use Rattle.plank_rules.specs.declared.names.Declared.{Declared}
use Rattle.plank_type.specs.Operands.{read_of, bind_of}
use Rattle.plank_type.specs.Statements.{read_block, atomic_block}
use Rattle.plank_type.proofs.Tests.{and_so, left_none, right_none}
use Rattle.plank_type.proofs.KnownNames.{name_known, with_apart}
use Rattle.plank_type.proofs.BoundNames.{binds_known, stand_alone}
use Rattle.plank_type.proofs.WrittenNames.{all_agree}

-- what a block keeps of its names
pub record LawfulNames (b : Block) : Type 0 where
  pub apart : all_pairs (λ q r. not (same_reference q r)) b.with ≡ true
  pub alone : binds_stand_alone b ≡ true
  pub agree : all_pairs writes_agree b.writes ≡ true

-- where an assignment reads a pointer, the names of its block are lawful
abbrev pub ReadsLawfully : Declared → List (List ℕ) → List ℕ → Assigned → ℕ → Type 0
ReadsLawfully names variables variable (Assigned.New place) next = ⊤
ReadsLawfully names variables variable (Assigned.Null place) next = ⊤
ReadsLawfully names variables variable (Assigned.Node node None) next = ⊤
ReadsLawfully names variables variable (Assigned.Node node (Some field)) next = LawfulNames (read_block names variables variable node field.label next)

module _ (m : Method) where
  abbrev vs : List (List ℕ)
  vs = variables_of m

  one_read : (names : Declared) (variable : Name) (node : ReferenceTree) (field : Name) → cons_option (bind_of names vs (record { variable = variable; node = node; field = field })) [] ≡ option_to_list (read_of names vs variable.label node field.label)
  one_read names variable node field = listed (read_of names vs variable.label node field.label)
    where
      listed : (o : Option Bind) → cons_option o [] ≡ option_to_list o
      listed None = refl
      listed (Some d) = refl

  -- the block of `p = q.f;`
  read_names : (t : Text) (names : Declared) (variable : Name) (node : ReferenceTree) (field : Name) (next : ℕ) → read_statement_rules (rules_header t) (method_scope m) variable node field ≡ [] → LawfulNames (read_block names vs variable.label node field.label next)
  read_names t names variable node field next h =
      let b : BindTree = record { variable = variable; node = node; field = field } in
      let before = name_rules (method_scope m) variable ++ read_rules (rules_header t) (method_scope m) node field in
      let known = name_known m variable (left_none (name_rules (method_scope m) variable) (read_rules (rules_header t) (method_scope m) node field) (left_none before (read_reuses (method_scope m) variable node) h)) in
      record {
        apart = refl;
        alone = subst (λ (bs : List Bind). binds_stand_alone (record { with = []; tests = []; binds = bs; writes = []; yes = next; no = next }) ≡ true) (one_read names variable node field)
            (stand_alone m names (record { with = None; tests = []; binds = b ∷ []; writes = [] }) next next (and_so (is_among (method_scope m).nodes variable.label) true known refl)
            (right_none before (read_reuses (method_scope m) variable node) h));
        agree = refl;
      }

  -- the block of an assignment
  pub assigned_names : (t : Text) (names : Declared) (variable : Name) (value : Assigned) (next : ℕ) → assign_rules (rules_header t) (method_scope m) variable value ≡ [] → ReadsLawfully names vs variable.label value next
  assigned_names t names variable (Assigned.New place) next h = tt
  assigned_names t names variable (Assigned.Null place) next h = tt
  assigned_names t names variable (Assigned.Node node None) next h = tt
  assigned_names t names variable (Assigned.Node node (Some field)) next h = read_names t names variable node field next h

  -- the block of `atomic`
  pub atomic_names : is_among vs (word_of word.Root) ≡ false → (names : Declared) (t : Text) (tree : BlockTree) (met other : ℕ) → block_rules (rules_header t) (method_scope m) tree ≡ [] → LawfulNames (atomic_block names vs tree met other)
  atomic_names rootless names t tree met other h =
      let of_with = optional_with_rules (method_scope m) tree.with in
      let of_tests = flat_map (test_line_rules (rules_header t) (method_scope m)) tree.tests in
      let of_binds = flat_map (bind_rules (rules_header t) (method_scope m)) tree.binds in
      let of_writes = writes_rules (rules_header t) (method_scope m) tree.writes in
      let of_reuses = block_reuses (method_scope m) tree in
      let four = left_none (of_with ++ of_tests ++ of_binds ++ of_writes) of_reuses h in
      let three = left_none (of_with ++ of_tests ++ of_binds) of_writes four in
      record {
        apart = with_apart m tree.with (left_none of_with of_tests (left_none (of_with ++ of_tests) of_binds three));
        alone = stand_alone m names tree met other (binds_known m t tree.binds (right_none (of_with ++ of_tests) of_binds three))
            (right_none (of_with ++ of_tests ++ of_binds ++ of_writes) of_reuses h);
        agree = all_agree m rootless names t tree.writes (right_none (of_with ++ of_tests ++ of_binds) of_writes four);
      }
