use Rattle.std.proofs.Common.{rules, ◌≡◌, ◌≤◌, length}
use Rattle.plank_large.proofs.Lengths.{large_few}
use Rattle.plank_large.specs.Texts.{large_text}
use Rattle.plank_large.proofs.texts.large_text.Goals as goal

pub returns-clause-few : goal.returns-clause-few
returns-clause-few c =
    let is : c.append_finds.new.out.items ≡ large_text c.args.methods = search rules in
    rw is (large_few c.args.methods c.requires.1)
