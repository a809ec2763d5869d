use Rattle.plank_follow.proofs.Joined.{among_then, appended_among, appended_there}
use Rattle.plank_follow.proofs.together.true_now.Goals as goal

pub returns-clause-lasting : goal.returns-clause-lasting
returns-clause-lasting c =
    among_then c.args.lasting.now c.add_all.new.all.items c.add_all-2.new.all.items (appended_there c.new-all.result.items c.add_all.new.all.items c.args.lasting.now c.in_ok-add_all.ensures)
    (appended_among c.add_all.new.all.items c.add_all-2.new.all.items c.args.presents.now c.in_ok-add_all-2.ensures)

pub returns-clause-presents : goal.returns-clause-presents
returns-clause-presents c = appended_there c.add_all.new.all.items c.add_all-2.new.all.items c.args.presents.now c.in_ok-add_all-2.ensures
