-- What a call sees in a heap, when a literal is true of what it sees, and when a fact of a pending call is true in a run.
use Rattle.std.specs.Prelude.{◌≡◌, ℕ, zero, suc, ℤ, Bool, true, false, not, ◌&&◌, ◌||◌, nat_lt, List, ◌∷◌, length, slice_get, Option, Some, None, is_none, option_map, option_and_then, if◌then◌else◌}
use Rattle.std.specs.Option.{option_map_or, option_flatten}
use Rattle.plank_base.specs.declared.keys.Key.{Key}
use Rattle.plank_base.specs.Keys.{is_at_most}
use Rattle.plank_prog.specs.declared.headers.Header.{Header}
use Rattle.plank_prog.specs.declared.blocks.Reference.{Reference}
use Rattle.plank_prog.specs.declared.methods.Method.{Method}
use Rattle.plank_prog.specs.Views.{is_bit_set}
use Rattle.plank_heap.specs.declared.nodes.Node.{Node}
use Rattle.plank_heap.specs.declared.heaps.Heap.{Heap}
use Rattle.plank_heap.specs.Walks.{walk_visits, contains}
use Rattle.plank_sem.specs.declared.calls.Call.{Call}
use Rattle.plank_sem.specs.declared.steps.Choice.{Choice}
use Rattle.plank_sem.specs.Kept.{GhostWorld}
use Rattle.plank_sem.specs.CallMoments.{call_moments}
use Rattle.plank_pic.specs.declared.literals.Literal.{Literal}
use Rattle.plank_pic.specs.Truths.{Caller, argument}
use Rattle.plank_fact.specs.declared.facts.Fact.{Fact}
use Rattle.plank_fact.specs.Literals.{past_name, can_be_past}
use Rattle.plank_fact.specs.OwnSteps.{own_call}
use Rattle.plank_scene.specs.Scenes.{Scene, node_at, is_node, is_shared_in, is_chain, on, on_both, has_lock}
use Rattle.plank_scene.specs.Turns.{number}

-- what a call sees: the nodes of its names and their fields, and the walk of its key
pub record Sight : Type 0 where
  pub named : Reference → Option ℕ
  pub node : Reference → Option Node
  pub shared : Reference → Bool
  pub visited : Reference → Bool
  pub chain : Reference → Reference → Bool
  pub in_set : Bool
  pub key : ℤ
  pub thread : ℕ
  pub spent : Bool

-- ---- literals

-- one node, or both null
abbrev pub same_target : Option ℕ → Option ℕ → Bool
same_target a b = (is_none a && is_none b) || is_node a b

-- something is true of the node that q names; nothing is of null
abbrev pub at_node : Sight → Reference → (Node → Bool) → Bool
at_node s q test = option_map_or test (s.node q) false

abbrev pub at_nodes : Sight → Reference → Reference → (Node → Node → Bool) → Bool
at_nodes s q r test = at_node s q (λ x. at_node s r (λ y. test x y))

-- a key lies below another
abbrev pub lies_below : Key → Key → Bool
lies_below a b = is_at_most a b && not (is_at_most b a)

-- where a pointer of a node leads
abbrev pub led : Node → ℕ → Option ℕ
led x f = number (option_flatten (slice_get x.pointers f))

abbrev pub flag_there : Header → ℕ → Bool
flag_there h f = nat_lt f (length h.flags)

abbrev pub pointer_there : Header → ℕ → Bool
pointer_there h f = nat_lt f (length h.pointers)

-- whether the literal is true of what a call sees. A name that the call names and that is not shared is its thread's own.
abbrev pub holds : Header → Sight → Literal → Bool
holds h s (Literal.Same q r) = same_target (s.named q) (s.named r)
holds h s (Literal.Apart q r) = not (same_target (s.named q) (s.named r))
holds h s (Literal.Null q) = is_none (s.named q)
holds h s (Literal.NotNull q) = not (is_none (s.named q))
holds h s (Literal.KeyBelow q r) = at_nodes s q r (λ x y. lies_below x.key y.key)
holds h s (Literal.KeyAtMost q r) = at_nodes s q r (λ x y. is_at_most x.key y.key)
holds h s (Literal.BelowArgument q) = at_node s q (λ x. lies_below x.key (Key.Num s.key))
holds h s (Literal.AtMostArgument q) = at_node s q (λ x. is_at_most x.key (Key.Num s.key))
holds h s (Literal.AboveArgument q) = at_node s q (λ x. lies_below (Key.Num s.key) x.key)
holds h s (Literal.AtLeastArgument q) = at_node s q (λ x. is_at_most (Key.Num s.key) x.key)
holds h s (Literal.KeyIsMin q) = at_node s q (λ x. is_at_most x.key Key.Min && is_at_most Key.Min x.key)
holds h s (Literal.AboveMin q) = at_node s q (λ x. lies_below Key.Min x.key)
holds h s (Literal.BelowMax q) = at_node s q (λ x. lies_below x.key Key.Max)
holds h s (Literal.KeyIsMax q) = at_node s q (λ x. is_at_most x.key Key.Max && is_at_most Key.Max x.key)
holds h s (Literal.Flag q f) = at_node s q (λ x. flag_there h f && is_bit_set x.flags f)
holds h s (Literal.NoFlag q f) = at_node s q (λ x. not (flag_there h f && is_bit_set x.flags f))
holds h s (Literal.Leads q f r) = at_node s q (λ x. pointer_there h f && same_target (led x f) (s.named r))
holds h s (Literal.LeadsNowhere q f) = at_node s q (λ x. pointer_there h f && is_none (led x f))
holds h s (Literal.Locked q) = at_node s q (λ x. h.has_lock && has_lock (Some s.thread) x)
holds h s (Literal.Owned q) = at_node s q (λ x. not (s.shared q))
holds h s (Literal.Shared q) = at_node s q (λ x. s.shared q)
holds h s (Literal.Visited q) = at_node s q (λ x. s.visited q)
holds h s Literal.InSet = s.in_set
holds h s Literal.NotInSet = not s.in_set
holds h s (Literal.Chain q r) = at_nodes s q r (λ x y. s.chain q r)
holds h s Literal.Spent = s.spent
holds h s Literal.Unspent = not s.spent

-- a literal is true, and the node of which it is said is shared, if it is said of one
abbrev pub holds_shared : Header → Sight → Literal → Bool
holds_shared h s L = holds h s L && option_map_or s.shared (past_name L) true

-- ---- what is seen

-- what a call sees in a scene
abbrev pub seen_in : Header → Scene → Caller → ℕ → Sight
seen_in h S c thread = record {
  named = λ r. S.named (c.name r);
  node = λ r. option_map (node_at S) (S.named (c.name r));
  shared = λ r. on (is_shared_in S) (S.named (c.name r));
  visited = λ r. on (walk_visits h S.heap (S.walked (argument c))) (S.named (c.name r));
  chain = λ q r. on_both (is_chain h S) (S.named (c.name q)) (S.named (c.name r));
  in_set = contains h S.heap (S.walked (argument c));
  key = S.walked (argument c);
  thread = thread;
  spent = S.spent;
}

-- the nodes that the names of a call of a method with so many variables name, by their numbers
abbrev pub value_at : Heap → Call → ℕ → ℕ → Option ℕ
value_at heap call variables zero = Some heap.root.0
value_at heap call variables (suc v) = if nat_lt v variables then number (option_flatten (slice_get call.variables v)) else None

abbrev pub values_of : Heap → Call → Method → Reference → Option ℕ
values_of heap call m r = value_at heap call (length m.variables) ((own_call m).name r)

-- a world as a scene without names
abbrev pub bare_scene : GhostWorld → ℤ → Scene
bare_scene g key = record {
  heap = g.world.heap;
  owners = g.kept.owners;
  before = g.world.heap;
  after = g.world.heap;
  named = λ i. None;
  walked = λ k. key;
  unborn = λ x. key;
  mine = λ x. true;
  own = None;
  other = None;
  spent = false;
}

-- what a call whose names have these nodes sees in a world
abbrev pub seen_at : Header → GhostWorld → (Reference → Option ℕ) → ℤ → ℕ → Bool → Sight
seen_at h g named key thread spent = record {
  named = named;
  node = λ r. option_and_then (λ x. slice_get g.world.heap.nodes x) (named r);
  shared = λ r. on (is_shared_in (bare_scene g key)) (named r);
  visited = λ r. on (walk_visits h g.world.heap key) (named r);
  chain = λ q r. on_both (is_chain h (bare_scene g key)) (named q) (named r);
  in_set = contains h g.world.heap key;
  key = key;
  thread = thread;
  spent = spent;
}

-- what a pending call sees in a world
abbrev pub sight_of : Header → GhostWorld → ℕ → Call → Method → Sight
sight_of h g thread call m = seen_at h g (values_of g.world.heap call m) call.key thread (g.kept.has_changed thread)

-- ---- facts

-- in some world of the pending call of a thread a literal was true of these nodes, and the node of which it is said shared
pub record WasTrue (h : Header) (choices : List Choice) (ghosts : List GhostWorld) (thread : ℕ) (named : Reference → Option ℕ) (key : ℤ) (L : Literal) : Type 0 where
  pub ago : ℕ
  pub moment : GhostWorld
  pub at : slice_get (call_moments thread choices ghosts) ago ≡ Some moment
  pub kind : can_be_past L ≡ true
  pub was : holds_shared h (seen_at h moment named key thread false) L ≡ true

-- a fact of the pending call of a thread is true in the newest world of a run
abbrev pub IsTrueFact : Header → List Choice → GhostWorld → List GhostWorld → ℕ → Call → Method → Fact → Type 0
IsTrueFact h choices g ghosts thread call m (Fact.Now L) = holds h (sight_of h g thread call m) L ≡ true
IsTrueFact h choices g ghosts thread call m (Fact.Past L) = WasTrue h choices (g ∷ ghosts) thread (values_of g.world.heap call m) call.key L
