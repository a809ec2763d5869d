use Rattle.std.proofs.Common.{sym, ◌∙◌}
use Rattle.plank_follow.proofs.Joined.{among_then, pushed_among, witness_named, witness_nameless}
use Rattle.plank_follow.proofs.together.add_witness.Goals as goal

pub returns-in_ok-add-in-Some-clause-grows : goal.returns-in_ok-add-in-Some-clause-grows
returns-in_ok-add-in-Some-clause-grows c =
    among_then c.args.all.now.items c.add.new.all.items c.add-in-Some.new.all.items (pushed_among c.args.all.now.items c.add.new.all.items _ c.in_ok-add.ensures) (pushed_among c.add.new.all.items c.add-in-Some.new.all.items _ c.in_ok-add-in-Some.ensures)

pub returns-in_ok-add-in-Some-clause-said : goal.returns-in_ok-add-in-Some-clause-said
returns-in_ok-add-in-Some-clause-said c =
    witness_named c.args.all.now.items c.add.new.all.items c.add-in-Some.new.all.items c.args.past c.in-Some.name (sym c.past_name.ensures ∙ c.in-Some.is) c.in_ok-add.ensures c.in_ok-add-in-Some.ensures

pub returns-in-None-clause-grows : goal.returns-in-None-clause-grows
returns-in-None-clause-grows c = pushed_among c.args.all.now.items c.add.new.all.items _ c.in_ok-add.ensures

pub returns-in-None-clause-said : goal.returns-in-None-clause-said
returns-in-None-clause-said c = witness_nameless c.args.all.now.items c.add.new.all.items c.args.past (sym c.past_name.ensures ∙ c.in-None.is) c.in_ok-add.ensures
