-- The table covers one more code.
use Rattle.std.proofs.lemmas.Result.{on_ok_weaker}
use Rattle.plank_parts.proofs.Covering.{covers_added}
use Rattle.plank_parts.proofs.tables.add_code.Goals as goal

pub returns : goal.returns
returns g c =
    on_ok_weaker c.add.result
    (λ grown. covers_added _ _ c.args.code c.args.table.now c.add.new.self c.part_of-part.result c.is_coded-there.result c.is_kept.result c.part_of-part.ensures c.is_coded-there.ensures c.is_kept.ensures c.requires.so_far grown)
    c.add.ensures
