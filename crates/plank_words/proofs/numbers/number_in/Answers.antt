use Rattle.std.proofs.Common.{rules, ◌≡◌, true}
use Rattle.plank_words.specs.Numbers.{is_number}
use Rattle.plank_words.proofs.Values.{number_reads}
use Rattle.plank_words.proofs.numbers.number_in.Goals as goal

pub returns : goal.returns
returns c =
    let is : is_number c.args.text.now ≡ true = search rules in
    let read = number_reads c.args.text.now c.parse.result c.parse.ensures.value.0 is in
    search (rules, read, is)
