use Rattle.plank_fact.specs.Forced.{outline}
use Rattle.plank_verdict.proofs.Acceptance.{holding}
use Rattle.plank_verdict.proofs.laws.accepted_runs_law.Goals as goal

pub returns-clause-linearizable : goal.returns-clause-linearizable
returns-clause-linearizable c = λ p said judged accepted.
    c.sound_outlines_law.ensures.linearizable (outline p.header p.methods judged.marks) p.header_is_lawful p.methods_are_lawful judged.valid
    (holding (outline p.header p.methods judged.marks) said.verdict judged.verdict accepted)

pub returns-clause-no_null_reads : goal.returns-clause-no_null_reads
returns-clause-no_null_reads c = λ p said judged accepted.
    c.sound_outlines_law.ensures.reads (outline p.header p.methods judged.marks) p.header_is_lawful p.methods_are_lawful judged.valid
    (holding (outline p.header p.methods judged.marks) said.verdict judged.verdict accepted)
