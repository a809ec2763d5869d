-- A small text, by computation: an insert into a sorted list whose last write does not test what it overwrites,
--     atomic { write n.next = c; }    atomic { write p.next = n; }    return true;
-- and a picture before that write in which it takes the walk of a key elsewhere.
use Rattle.std.specs.Prelude.{◌≡◌, ℕ, Bool, true, false, not, ◌&&◌, ◌==◌, nat_le, if◌then◌else◌, [], ◌∷◌, length, slice_get, Some, None}
use Rattle.std.proofs.Common.{refl, ap}
use Rattle.plank_base.specs.declared.keys.Key.{Key}
use Rattle.plank_base.specs.declared.operations.Op.{Op}
use Rattle.plank_prog.specs.declared.conditions.KeyTerm.{KeyTerm}
use Rattle.plank_prog.specs.declared.conditions.KeyRelation.{KeyRelation}
use Rattle.plank_prog.specs.declared.conditions.Condition.{Condition}
use Rattle.plank_prog.specs.declared.conditions.Condition.TheOpen.{Condition-F}
use Rattle.plank_prog.specs.declared.conditions.Condition.TheViews.{roll-Condition}
use Rattle.plank_prog.specs.declared.conditions.Condition.TheFolds.{fold-roll-Condition}
use Rattle.plank_prog.specs.Conditions.{View, value, value_step, compares}
use Rattle.plank_prog.specs.declared.headers.KeyOrder.{KeyOrder}
use Rattle.plank_prog.specs.declared.headers.Header.{Header}
use Rattle.plank_prog.specs.declared.blocks.Reference.{Reference}
use Rattle.plank_prog.specs.declared.blocks.Value.{Value}
use Rattle.plank_prog.specs.declared.blocks.Write.{Write}
use Rattle.plank_prog.specs.declared.methods.Action.{Action}
use Rattle.plank_prog.specs.declared.methods.Location.{Location}
use Rattle.plank_prog.specs.declared.methods.Method.{Method}
use Rattle.plank_prog.specs.declared.methods.MethodKind.{MethodKind}
use Rattle.plank_pic.specs.declared.literals.Literal.{Literal}
use Rattle.plank_pic.specs.declared.parts.KeyName.{KeyName}
use Rattle.plank_pic.specs.declared.parts.Term.{Term}
use Rattle.plank_pic.specs.declared.parts.Part.{Part}
use Rattle.plank_pic.specs.Below.{some_below, least_below}
use Rattle.plank_pic.specs.Outcomes.{outcome_after, outcome_by, passes_by, enters_by}
use Rattle.plank_pic.specs.Pictures.{Picture, target, edge}
use Rattle.plank_pic.specs.Lawful.{part_fits}
use Rattle.plank_pic.specs.declared.moves.Moved.{Moved}
use Rattle.plank_pic.specs.Steps.{Change}
use Rattle.plank_pic.specs.Truths.{truth}
use Rattle.plank_fact.specs.declared.facts.Fact.{Fact}
use Rattle.plank_fact.specs.Tables.{joined, facts_of}
use Rattle.plank_fact.specs.OwnSteps.{method_frame, own_call}
use Rattle.plank_fact.specs.ObligationList.{obligations}
use Rattle.plank_fact.specs.Writes.{moves, turns_wrongly}

-- ---- the text

-- a condition that compares two keys
keys_so : KeyTerm → KeyRelation → KeyTerm → Condition
keys_so a relation b = roll-Condition (Condition-F.Keys a relation b)

abbrev list_header : Header
list_header = record {
  flags = [];
  pointers = record { name = []; order = KeyOrder.Ascending; edge = Some (keys_so KeyTerm.Node KeyRelation.Less KeyTerm.Walked) } ∷ [];
  has_lock = false;
  nodes = record { name = []; key = Key.Min; flags = 0; pointers = Some 1 ∷ [] } ∷ record { name = []; key = Key.Max; flags = 0; pointers = None ∷ [] } ∷ [];
  root = 0;
  holds = keys_so KeyTerm.Node KeyRelation.Equal KeyTerm.Walked;
  keeps = [];
  freeze = None;
}

abbrev p_name : Reference
p_name = Reference.Variable 0

abbrev c_name : Reference
c_name = Reference.Variable 1

abbrev n_name : Reference
n_name = Reference.Variable 2

abbrev block_of : Write → ℕ → Action
block_of w next = Action.Block (record { with = []; tests = []; binds = []; writes = w ∷ []; yes = next; no = next })

abbrev at_line : ℕ → Action → Location
at_line line action = record { place = record { line = line; column = 5; byte = 0 }; action = action }

abbrev blind_insert : Method
blind_insert = record {
  name = [];
  kind = MethodKind.Set Op.Insert;
  arg = [];
  variables = [] ∷ [] ∷ [] ∷ [];
  locations = at_line 1 (block_of (Write.Pointer n_name 0 (Value.Node c_name)) 1)
      ∷ at_line 2 (block_of (Write.Pointer p_name 0 (Value.Node n_name)) 2) ∷ at_line 3 (Action.Return true) ∷ [];
}

-- ---- its facts and its obligations

facts_are_counted : length (facts_of list_header blind_insert) ≡ 118
unfolding facts_of joined
facts_are_counted = refl

last_fact : slice_get (facts_of list_header blind_insert) 117 ≡ Some (Fact.Now Literal.Unspent)
unfolding facts_of joined
last_fact = refl

first_link : slice_get (facts_of list_header blind_insert) 76 ≡ Some (Fact.Now (Literal.Leads Reference.Root 0 Reference.Root))
unfolding facts_of joined
first_link = refl

obligations_are_counted : length (obligations (blind_insert ∷ [])) ≡ 17
obligations_are_counted = refl

-- ---- a picture before the last write: root is p, whose pointer leads to a node without a name; n leads to c

-- 0 root, 1 p, 2 c, 3 n
abbrev class : ℕ → ℕ
class i = if i == 1 then 0 else i

abbrev is_link : ℕ → ℕ → Bool
is_link i j = (i == 3) && (j == 2)

-- the keys: root's least; n's is the own key; c's is the greatest of the nodes'
abbrev rank : Term → ℕ
rank (Term.Node i) = if i == 2 then 3 else if i == 3 then 1 else 0
rank Term.Min = 0
rank Term.Max = 4
rank (Term.Walked KeyName.Own) = 1
rank (Term.Walked KeyName.Other) = 1
rank (Term.Walked KeyName.Any) = 2
rank (Term.Stop k s) = 0

abbrev says : Part → Bool
says (Part.Same i j) = class i == class j
says (Part.Shared i) = not (i == 3)
says (Part.Mine i) = i == 3
says (Part.Beyond x) = not (x.name == 3)
says (Part.Leads x j) = is_link x.name j
says (Part.SameBeyond x y) = not (x.name == 3) && (class x.name == class y.name)
says (Part.AtMost s t) = nat_le (rank s) (rank t)
says (Part.Visits k i) = class i == 0
says (Part.Chain i j) = class i == class j
says part = false

abbrev before : Picture
before part = part_fits (method_frame list_header blind_insert) part && says part

abbrev last_write : Change
last_write = record { at = 1; flag = λ f. None; pointer = λ f. if f == 0 then Some (Some 3) else None; lock = None; own = true }

-- a comparison of two keys has the value that the view gives it
keys_compared : (v : View) (a b : KeyTerm) (relation : KeyRelation) → value v (keys_so a relation b) ≡ compares v.at_most relation a b
unfolding keys_so
keys_compared v a b relation = fold-roll-Condition Bool (value_step v) (Condition-F.Keys a relation b)

-- the walk of the generic key left outside, and would end at c: it is taken elsewhere, and so the write may not be made
goes_elsewhere : moves (method_frame list_header blind_insert) last_write before ≡ Moved.Apart
unfolding some_below least_below outcome_by passes_by enters_by
goes_elsewhere =
    simp (keys_compared, target, edge, outcome_after) refl

turns : turns_wrongly blind_insert.kind before (moves (method_frame list_header blind_insert) last_write before) ≡ true
turns = ap (turns_wrongly blind_insert.kind before) goes_elsewhere

-- what the call knows of n and c there is true
known : truth before (own_call blind_insert) (Literal.Leads n_name 0 c_name) ≡ true
known = refl
