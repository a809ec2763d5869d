-- Threads may share a program, and a decider of one: what a `&` to it holds says the same to every thread.
--     condition, pointer, keep, header      the parts of a program that hold a tree of conditions.        condition_field, .. , program_field      the same where they are fields
--     program      a whole program.        decider      a decider whose oracle threads may share
-- The tree of conditions leads back to itself, and for such a type the check generates the step alone (`sync-Condition`).
use denote.RattleType.{RattleType}
use denote.Ref.{NamedLft}
use denote.Struct.Declared.{shape}
use denote.Param.Send.{IsSync, plain_sync, shr_sync, struct_sync, recorded_sync}
use Rattle.std.proofs.option.Option.TheSendSync as option
use Rattle.sqlite_items.proofs.items.Items.TheSendSync as items
use Rattle.plank_base.proofs.label.Label.TheSendSync as label
use Rattle.plank_base.specs.contracts.label.Label as Label
use Rattle.plank_prog.proofs.conditions.Condition.TheLaws.TheKnot.{sync-Condition}
use Rattle.plank_prog.proofs.conditions.KeyRelation.TheSendSync as relation
use Rattle.plank_prog.proofs.conditions.KeyTerm.TheSendSync as term
use Rattle.plank_prog.proofs.headers.KeyOrder.TheSendSync as order
use Rattle.plank_prog.proofs.headers.StartNode.TheSendSync as node
use Rattle.plank_prog.proofs.methods.Method.TheSendSync as method
use Rattle.plank_prog.specs.contracts.conditions.Condition as Condition
use Rattle.plank_prog.specs.contracts.headers.Header as Header
use Rattle.plank_prog.specs.contracts.headers.Keep as Keep
use Rattle.plank_prog.specs.contracts.headers.Pointer as Pointer
use Rattle.plank_prog.specs.contracts.headers.StartNode as StartNode
use Rattle.plank_prog.specs.contracts.methods.Method as Method
use Rattle.plank_prog.specs.contracts.programs.Program as Program
use Rattle.plank_decide.specs.contracts.deciders.Decider as Decider

pub condition_field : IsSync (Condition.the_field).row
condition_field = sync-Condition (plain_sync _ _ _ _ _) (plain_sync _ _ _ _ _) term.the_field_sync relation.the_field_sync items.the_sync

pub condition : IsSync Condition.the_row
condition = recorded_sync (Condition.the_field).row _ _ (Condition.the_type).to_one condition_field

pub pointer_field : IsSync (Pointer.the_field).row
pointer_field = struct_sync (shape Pointer.the_type) (label.the_sync, (order.the_field_sync, (option.the_field_sync Condition.the_row condition, tt)))

pub pointer : IsSync Pointer.the_row
pointer = recorded_sync (Pointer.the_field).row _ _ (Pointer.the_type).to_one pointer_field

pub keep_field : IsSync (Keep.the_field).row
keep_field = struct_sync (shape Keep.the_type) (label.the_sync, (condition_field, tt))

pub keep : IsSync Keep.the_row
keep = recorded_sync (Keep.the_field).row _ _ (Keep.the_type).to_one keep_field

pub header_field : IsSync (Header.the_field).row
header_field = struct_sync (shape Header.the_type) (
  items.the_sync Label.the_row label.the_sync,
  (
    items.the_sync Pointer.the_row pointer,
    (
      plain_sync _ _ _ _ _,
      (
        items.the_sync StartNode.the_row node.the_sync,
        (
          plain_sync _ _ _ _ _,
          (condition_field, (items.the_sync Keep.the_row keep, (option.the_field_sync Condition.the_row condition, tt))),
        ),
      ),
    ),
  ),
)

pub header : IsSync Header.the_row
header = recorded_sync (Header.the_field).row _ _ (Header.the_type).to_one header_field

pub program_field : IsSync (Program.the_field).row
program_field = struct_sync (shape Program.the_type) (label.the_sync, (header_field, (items.the_sync Method.the_row method.the_sync, tt)))

pub program : IsSync Program.the_row
program = recorded_sync (Program.the_field).row _ _ (Program.the_type).to_one program_field

pub decider : (a : NamedLft) (Q : RattleType) → IsSync Q → IsSync (Decider.the_row a Q)
decider a Q s = recorded_sync (Decider.the_field a Q).row _ _ (Decider.the_type a Q).to_one
    (struct_sync (shape (Decider.the_type a Q)) (shr_sync a.mir a.lft Q s, (shr_sync a.mir a.lft Program.the_row program, tt)))
