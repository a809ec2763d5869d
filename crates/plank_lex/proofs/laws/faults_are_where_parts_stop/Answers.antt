-- Both directions are proved in Cuts.
use Rattle.plank_lex.proofs.Cuts.{fault_cut, cut_fault}
use Rattle.plank_lex.proofs.laws.faults_are_where_parts_stop.Goals as goal

pub returns : goal.returns
returns c text p = (fault_cut text p, cut_fault text p)
