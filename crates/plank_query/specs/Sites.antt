-- The turn of a site: another call takes the yes exit of an action that writes, and the picture has names for what the action
-- reads. Situations are said of it.
use Rattle.std.specs.Prelude.{ℕ, true, false, Option, None}
use Rattle.plank_prog.specs.declared.blocks.Reference.{Reference}
use Rattle.plank_prog.specs.declared.blocks.Block.{Block}
use Rattle.plank_prog.specs.declared.methods.Action.{Action}
use Rattle.plank_pic.specs.Blocks.{Turn}
use Rattle.plank_fact.specs.Effects.{read_below, other_name}

-- how many variables below w an action reads, where it is a block
abbrev pub action_reads_below : Action → ℕ → ℕ
action_reads_below (Action.Block b) w = read_below b w
action_reads_below (Action.Copy to from next) w = 0
action_reads_below (Action.New to next) w = 0
action_reads_below (Action.Return answer) w = 0

-- how many a block reads in all; no program has more variables
unfoldable pub read_in_all : Block → ℕ
read_in_all b = read_below b 256

abbrev pub action_reads : Action → ℕ
action_reads (Action.Block b) = read_in_all b
action_reads (Action.Copy to from next) = 0
action_reads (Action.New to next) = 0
action_reads (Action.Return answer) = 0

-- the names after the n names of the own call are of the variables that the action reads
abbrev pub site_name : ℕ → Action → Reference → Option ℕ
site_name n (Action.Block b) r = other_name n b r
site_name n (Action.Copy to from next) r = None
site_name n (Action.New to next) r = None
site_name n (Action.Return answer) r = None

abbrev pub site_turn : ℕ → Action → Turn
site_turn n action = record { action = action; yes = true; mine = false; name_of = site_name n action; read_by = λ v. 0 }
