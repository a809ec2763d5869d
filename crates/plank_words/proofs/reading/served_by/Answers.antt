use Rattle.std.proofs.Common.{ap, ◌∙◌}
use Rattle.clap.specs.Words.{is_simple_and_free}
use Rattle.plank_words.proofs.Taking.{simple_for}
use Rattle.plank_words.proofs.reading.served_by.Goals as goal

pub value_in-requires : goal.value_in-requires
value_in-requires c = ap is_simple_and_free c.in_ok-parser.ensures.app ∙ simple_for c.args.command
