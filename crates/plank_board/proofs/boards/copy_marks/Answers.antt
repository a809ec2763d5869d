-- One more word.
use Rattle.std.proofs.Common.{◌<◌, length, rules}
use Rattle.std.specs.Mem.Slots.{slots_items}
use Rattle.plank_board.proofs.Loops.{copied_word}
use Rattle.plank_board.proofs.boards.copy_marks.Goals as goal

pub loop-i-preserved : goal.loop-i-preserved
loop-i-preserved c =
    let within : c.loop-i.i < length c.loop-i.last = search rules in
    record {
      same_length = search rules;
      so_far = copied_word (slots_items c.args.closed.now.words) c.loop-i.last c.put_word.new.self c.args.methods c.loop-i.i c.word.result within c.put_word.ensures c.word.ensures c.loop-i.invariant.so_far;
    }
