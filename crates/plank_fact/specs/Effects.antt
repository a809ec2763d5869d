-- Effects: what a step of another call that writes may do to the nodes that a call names. Hindsight and what is broken are
-- said of them.
use Rattle.std.specs.Prelude.{◌≡◌, ℕ, zero, suc, ◌+◌, ◌<◌, ◌≤◌, Bool, true, false, not, ◌&&◌, length, Option, Some, None, if◌then◌else◌}
use Rattle.plank_prog.specs.declared.blocks.Reference.{Reference}
use Rattle.plank_prog.specs.declared.blocks.Block.{Block}
use Rattle.plank_prog.specs.declared.methods.Action.{Action}
use Rattle.plank_prog.specs.declared.methods.Method.{Method}
use Rattle.plank_prog.specs.Blocks.{block_reads}
use Rattle.plank_prog.specs.Methods.{is_site}
use Rattle.plank_pic.specs.declared.literals.Literal.{Literal}
use Rattle.plank_pic.specs.Frames.{Frame}
use Rattle.plank_pic.specs.Pictures.{Picture}
use Rattle.plank_pic.specs.Lawful.{IsLawful}
use Rattle.plank_pic.specs.Blocks.{Turn, name, IsWriteStep}
use Rattle.plank_pic.specs.Calls.{is_others}
use Rattle.plank_pic.specs.Truths.{Caller, truth}
use Rattle.plank_fact.specs.declared.facts.Fact.{Fact}
use Rattle.plank_fact.specs.Literals.{is_over, is_of_call}
use Rattle.plank_fact.specs.Tables.{name_count}
use Rattle.plank_fact.specs.Outlines.{Outline, Point, IsClaimed}
use Rattle.plank_fact.specs.OwnSteps.{frame_of}

-- ---- names: those of the own method, and then the variables of the other call that its block reads

-- how many variables below w a block reads; one that it binds it does not read
abbrev pub read_below : Block → ℕ → ℕ
read_below b zero = 0
read_below b (suc w) = read_below b w + (if block_reads b (Reference.Variable w) then 1 else 0)

-- root is the root of both calls
abbrev pub other_name : ℕ → Block → Reference → Option ℕ
other_name n b Reference.Root = Some 0
other_name n b (Reference.Variable w) = if block_reads b (Reference.Variable w) then Some (n + read_below b w) else None

-- the other call's turn by the yes exit of a block, in a picture that has n own names
abbrev pub other_turn : ℕ → Block → Turn
other_turn n b = record { action = Action.Block b; yes = true; mine = false; name_of = other_name n b; read_by = λ v. 0 }

abbrev pub other_call : ℕ → Block → Caller
other_call n b = record { own = false; name = name (other_turn n b) }

abbrev pub joint_frame : Outline → Method → Method → Block → Frame
joint_frame O m other b = frame_of O.header (name_count m + read_below b (length other.variables))

-- a fact that is known of the names which the block reads, besides what its call has done
abbrev pub is_known_to : Block → Literal → Bool
is_known_to b L = not (is_of_call L) && is_over (block_reads b) L

-- the block of a site, its exit yes, by the other call in a picture that names the nodes of a call of m: what is claimed
-- at the site is true of the names that the block reads, and they are null, shared or the other thread's
pub record IsEffect (O : Outline) (m : Method) (site : Point O.methods) (before after : Picture) : Type 0 where
  pub writes : is_site site.location.action ≡ true
  pub block : Block
  pub here : site.location.action ≡ Action.Block block
  pub lawful : IsLawful (joint_frame O m site.method block) before
  pub others : (i : ℕ) → name_count m ≤ i → i < (joint_frame O m site.method block).names → is_others before i ≡ true
  pub claimed : (L : Literal) → IsClaimed O site (Fact.Now L) → is_known_to block L ≡ true → truth before (other_call (name_count m) block) L ≡ true
  pub step : IsWriteStep (joint_frame O m site.method block) (other_turn (name_count m) block) before after
