use Rattle.std.proofs.Common.{Some, sym, ap, ◌∙◌}
use Rattle.plank_sem.proofs.LawfulActions.{binds_at, writes_at, copy_at, new_at}
use Rattle.plank_sem.proofs.worlds.World.go.Goals as goal

pub run_block-requires-clause-binds : goal.run_block-requires-clause-binds
run_block-requires-clause-binds c =
    let program = c.args.program.now in
    binds_at program.header program.methods c.in-Some.call program.header_is_lawful program.methods_are_lawful c.in-Some-Block.block
    (sym c.in-Some-Block.ensures ∙ ap (λ a. Some a) c.in-Some-Block.field-0-is)

pub run_block-requires-clause-writes : goal.run_block-requires-clause-writes
run_block-requires-clause-writes c =
    let program = c.args.program.now in
    writes_at program.header program.methods c.in-Some.call program.header_is_lawful program.methods_are_lawful c.in-Some-Block.block
    (sym c.in-Some-Block.ensures ∙ ap (λ a. Some a) c.in-Some-Block.field-0-is)

pub copy-requires-clause-variable : goal.copy-requires-clause-variable
copy-requires-clause-variable c =
    let program = c.args.program.now in
    copy_at program.header program.methods c.in-Some.call program.header_is_lawful program.methods_are_lawful c.in-Some-Copy.to c.in-Some-Copy.from c.in-Some-Copy.next
    (sym c.in-Some-Copy.ensures ∙ ap (λ a. Some a) c.in-Some-Copy.field-0-is)

pub allocate-requires-clause-variable : goal.allocate-requires-clause-variable
allocate-requires-clause-variable c =
    let program = c.args.program.now in
    new_at program.header program.methods c.in-Some.call program.header_is_lawful program.methods_are_lawful c.in-Some-New.to c.in-Some-New.next
    (sym c.in-Some-New.ensures ∙ ap (λ a. Some a) c.in-Some-New.field-0-is)
