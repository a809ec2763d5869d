-- The writes of a turn, as a list, and the picture with the fields that they write.
use Rattle.std.specs.Prelude.{ℕ, Bool, not, ◌&&◌, ◌||◌, false, true, List, [], ◌∷◌, Option, Some, None, option_map, if◌then◌else◌}
use Rattle.std.specs.Option.{option_map_or}
use Rattle.plank_prog.specs.declared.blocks.Write.{Write}
use Rattle.plank_prog.specs.declared.blocks.Bind.{Bind}
use Rattle.plank_prog.specs.Blocks.{written_node}
use Rattle.plank_pic.specs.declared.parts.KeyName.{KeyName}
use Rattle.plank_pic.specs.declared.parts.Part.{Part}
use Rattle.plank_pic.specs.Frames.{Frame}
use Rattle.plank_pic.specs.Below.{some_below}
use Rattle.plank_pic.specs.Pictures.{Picture, is_fast, is_picked}
use Rattle.plank_pic.specs.Steps.{Change, Source, Of, Null, Fresh, leads_there}
use Rattle.plank_pic.specs.Blocks.{Turn, Pointed, name, value_name, put_flag, put_pointer, put_lock, is_null}
use Rattle.plank_step.specs.declared.turns.Origin.{Origin}

-- the name of the node that these writes are of, the first of them
abbrev pub written_name : Turn → List Write → ℕ
written_name s [] = 0
written_name s (w ∷ ws) = name s (written_node w)

-- what these writes, all of one node, write
abbrev pub change_over : Turn → List Write → Change
change_over s ws = record {
  at = written_name s ws;
  flag = λ f. put_flag f ws;
  pointer = λ f. option_map (value_name s) (put_pointer f ws);
  lock = put_lock ws;
  own = s.mine;
}

-- a write of the pointer field f puts the node that i names there
abbrev pub puts : Picture → Change → ℕ → ℕ → Bool
puts B c i f = option_map_or (λ to. leads_there B to i) (c.pointer f) false

-- what is left of chains and stop nodes where the node that `at` names is written, or None where it is free
abbrev pub chain_left : Frame → Picture → ℕ → ℕ → ℕ → Option Bool
chain_left F B at i j = if B (Part.Same i j) || (B (Part.Chain i j) && not (is_fast F.header B at)) then Some true else None

abbrev pub pick_left : Frame → Picture → ℕ → KeyName → ℕ → ℕ → ℕ → Option Bool
pick_left F B at k i j s = if B (Part.Chain i j) && not (is_fast F.header B at) then Some (B (Part.Picks k i j s)) else None

abbrev pub stop_flag_left : Frame → Picture → ℕ → KeyName → ℕ → ℕ → Option Bool
stop_flag_left F B at k s f = if is_picked F B k s && not (is_fast F.header B at) then Some (B (Part.StopFlag k s f)) else None

-- where a name comes from, as the code has it
abbrev pub source_from : Origin → Source
source_from (Origin.Name n) = Of n
source_from Origin.Null = Null
source_from Origin.Fresh = Fresh

-- two pointers lead to a node that has a name
abbrev pub both_are : Pointed → Pointed → ℕ → Bool
both_are v w j = v.is j && w.is j

abbrev pub has_one_target : Frame → Pointed → Pointed → Bool
has_one_target F v w = some_below (both_are v w) F.names

-- a write, and a bind, reach a node
abbrev pub write_reaches : Turn → Picture → Write → Bool
write_reaches s p w = not (is_null s p (written_node w))

abbrev pub bind_reaches : Turn → Picture → Bind → Bool
bind_reaches s p d = not (is_null s p d.from)
