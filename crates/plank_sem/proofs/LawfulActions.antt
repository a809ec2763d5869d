-- What a lawful program says of the action at the location of a call: the numbers in it are in range.
use Rattle.std.proofs.Common.{◌≡◌, ℕ, ◌<◌, ◌≤◌, Bool, true, false, List, length, Some, subst, arith}
use Rattle.std.specs.Prelude.{All, slice_get, option_and_then, is_some, if◌then◌else◌}
use Rattle.std.proofs.lemmas.Bool.{and_parts, ltb-true, leb-true}
use Rattle.std.proofs.lemmas.Option.{option_and_then_some}
use Rattle.plank_base.specs.declared.limits.TheConstants.{VARIABLES_LIMIT, FROZEN_VARIABLES_LIMIT, FLAGS_LIMIT, POINTERS_LIMIT}
use Rattle.plank_prog.specs.declared.headers.Header.{Header}
use Rattle.plank_prog.specs.declared.blocks.Value.{Value}
use Rattle.plank_prog.specs.declared.blocks.Bind.{Bind}
use Rattle.plank_prog.specs.declared.blocks.Write.{Write}
use Rattle.plank_prog.specs.declared.blocks.Block.{Block}
use Rattle.plank_prog.specs.declared.methods.Action.{Action}
use Rattle.plank_prog.specs.declared.methods.Location.{Location}
use Rattle.plank_prog.specs.declared.methods.Method.{Method}
use Rattle.plank_prog.specs.Headers.{is_lawful_header, is_header_within_limits}
use Rattle.plank_prog.specs.Blocks.{is_lawful_block, block_parts_fit, bind_fits, write_fits}
use Rattle.plank_prog.specs.Methods.{variables_limit, is_lawful_action, is_lawful_location, is_lawful_method, are_lawful_methods}
use Rattle.plank_sem.specs.declared.calls.Call.{Call}
use Rattle.plank_sem.specs.Actions.{HasRoom}
use Rattle.plank_sem.specs.Steps.{action_of}
use Rattle.plank_prog.proofs.HeaderFacts.{list_all_at}
use Rattle.plank_sem.proofs.Lists.{mapped, All-from_list_all}

-- an action that a call stands at, of its method
pub record StandsAt (h : Header) (methods : List Method) (call : Call) (action : Action) : Type 0 where
  pub method : Method
  pub called : slice_get methods call.method ≡ Some method
  pub variables : length method.variables ≤ VARIABLES_LIMIT
  pub lawful : is_lawful_action h (length method.variables) (length method.locations) action ≡ true

few_variables : (h : Header) (n : ℕ) → n ≤ variables_limit h → n ≤ VARIABLES_LIMIT
few_variables h n few = either (is_some h.freeze) few
  where
    either : (b : Bool) → n ≤ (if b then FROZEN_VARIABLES_LIMIT else VARIABLES_LIMIT) → n ≤ VARIABLES_LIMIT
    either true within = omega arith
    either false within = within

location_stands : (h : Header) (methods : List Method) (call : Call) (method : Method) (l : Location) → are_lawful_methods h methods ≡ true
    → slice_get methods call.method ≡ Some method → slice_get method.locations call.location ≡ Some l → StandsAt h methods call l.action
location_stands h methods call method l lawful called at =
    let one : is_lawful_method h method ≡ true = list_all_at (is_lawful_method h) methods call.method method (and_parts _ _ lawful).1 called in
    let parts = and_parts _ _ one in
    let room = and_parts _ _ (and_parts _ _ (and_parts _ _ parts.0).0).0 in
    let here : is_lawful_location h (length method.variables) (length method.locations) l ≡ true =
    list_all_at (is_lawful_location h (length method.variables) (length method.locations)) method.locations call.location l parts.1 at in
    record { method = method; called = called; variables = few_variables h (length method.variables) (leb-true (length method.variables) (variables_limit h) room.0); lawful = (and_parts _ _ here).0 }

pub stands_at : (h : Header) (methods : List Method) (call : Call) (action : Action) → are_lawful_methods h methods ≡ true
    → action_of methods call ≡ Some action → StandsAt h methods call action
stands_at h methods call action lawful at =
    let found = mapped (λ (l : Location). l.action) (option_and_then (λ (m : Method). slice_get m.locations call.location) (slice_get methods call.method)) action at in
    subst (λ a. StandsAt h methods call a) found.2
    (option_and_then_some (λ (m : Method). slice_get m.locations call.location) (slice_get methods call.method) found.0 found.1
    (λ method called l. location_stands h methods call method found.0 lawful called l))

-- ---- blocks

module _ (h : Header) (variables locations : ℕ) (b : Block) (lawful : is_lawful_block h variables locations b ≡ true) where
  -- the tests of a lawful block, in their order: parts, exits, names, binds, writes, locks
  pub block_parts : block_parts_fit h variables b ≡ true
  block_parts =
      (and_parts _ _ (and_parts _ _ (and_parts _ _ (and_parts _ _ (and_parts _ _ (and_parts _ _ lawful).0).0).0).0).0).0

  pub block_yes : b.yes < locations
  block_yes =
      ltb-true b.yes locations (and_parts _ _ (and_parts _ _ (and_parts _ _ (and_parts _ _ (and_parts _ _ (and_parts _ _ lawful).0).0).0).0).0).1

  pub block_no : b.no < locations
  block_no = ltb-true b.no locations (and_parts _ _ (and_parts _ _ (and_parts _ _ (and_parts _ _ (and_parts _ _ lawful).0).0).0).0).1

  bind_in_range : variables ≤ VARIABLES_LIMIT → (d : Bind) → bind_fits h variables d ≡ true → d.to < VARIABLES_LIMIT
  bind_in_range few d fits = let below = ltb-true d.to variables (and_parts _ _ (and_parts _ _ fits).0).0 in omega (arith, below)

  pub binds_in_range : variables ≤ VARIABLES_LIMIT → All (λ d. d.to < VARIABLES_LIMIT) b.binds
  binds_in_range few =
      All-from_list_all (bind_fits h variables) (λ d. d.to < VARIABLES_LIMIT) (bind_in_range few) b.binds (and_parts _ _ (and_parts _ _ block_parts).0).1

below_limit : (n m limit : ℕ) → n < m → m ≤ limit → n < limit
below_limit n m limit below few = omega arith

has_room : (h : Header) (variables : ℕ) (w : Write) → is_header_within_limits h ≡ true → write_fits h variables w ≡ true → HasRoom w
has_room h variables (Write.Flag r flag to) limits fits =
    below_limit flag (length h.flags) FLAGS_LIMIT (ltb-true flag (length h.flags) (and_parts _ _ fits).1)
    (leb-true (length h.flags) FLAGS_LIMIT (and_parts _ _ (and_parts _ _ limits).0).0)
has_room h variables (Write.Pointer r pointer to) limits fits =
    below_limit pointer (length h.pointers) POINTERS_LIMIT (ltb-true pointer (length h.pointers) (and_parts _ _ (and_parts _ _ fits).0).1)
    (leb-true (length h.pointers) POINTERS_LIMIT (and_parts _ _ (and_parts _ _ limits).0).1)
has_room h variables (Write.TakeLock r) limits fits = tt
has_room h variables (Write.FreeLock r) limits fits = tt

pub writes_have_room : (h : Header) (variables locations : ℕ) (b : Block) → is_lawful_header h ≡ true → is_lawful_block h variables locations b ≡ true
    → All HasRoom b.writes
writes_have_room h variables locations b header lawful =
    let limits : is_header_within_limits h ≡ true = (and_parts _ _ (and_parts _ _ (and_parts _ _ header).0).0).0 in
    All-from_list_all (write_fits h variables) HasRoom (λ w fits. has_room h variables w limits fits) b.writes
    (and_parts _ _ (block_parts h variables locations b lawful)).1

-- ---- what the code needs of the action that it comes to

module _ (h : Header) (methods : List Method) (call : Call) (header : is_lawful_header h ≡ true) (lawful : are_lawful_methods h methods ≡ true) where
  pub binds_at : (b : Block) → action_of methods call ≡ Some (Action.Block b) → All (λ d. d.to < VARIABLES_LIMIT) b.binds
  binds_at b at =
      let here = stands_at h methods call (Action.Block b) lawful at in
      binds_in_range h (length here.method.variables) (length here.method.locations) b here.lawful here.variables

  pub writes_at : (b : Block) → action_of methods call ≡ Some (Action.Block b) → All HasRoom b.writes
  writes_at b at =
      let here = stands_at h methods call (Action.Block b) lawful at in
      writes_have_room h (length here.method.variables) (length here.method.locations) b header here.lawful

  pub copy_at : (to : ℕ) (from : Value) (next : ℕ) → action_of methods call ≡ Some (Action.Copy to from next) → to < VARIABLES_LIMIT
  copy_at to from next at =
      let here = stands_at h methods call (Action.Copy to from next) lawful at in
      let below = ltb-true to (length here.method.variables) (and_parts _ _ (and_parts _ _ here.lawful).0).0 in
      omega (arith, below, here.variables)

  pub new_at : (to next : ℕ) → action_of methods call ≡ Some (Action.New to next) → to < VARIABLES_LIMIT
  new_at to next at =
      let here = stands_at h methods call (Action.New to next) lawful at in
      let below = ltb-true to (length here.method.variables) (and_parts _ _ here.lawful).0 in
      omega (arith, below, here.variables)
