use Rattle.std.proofs.Common.{subst}
use Rattle.std.proofs.lemmas.Result.{IfOk-weaker}
use Rattle.plank_bits.specs.Words.{has}
use Rattle.plank_query.specs.declared.situations.Situation.{Situation}
use Rattle.plank_method.specs.Deciding.{outline_of, IsExact}
use Rattle.plank_follow.specs.Known.{IsKnownFrom}
use Rattle.plank_trans.proofs.Begins.{entry_exact}
use Rattle.plank_trans.proofs.entering.Entering.known.Goals as goal

pub returns : goal.returns
returns g c =
    let s = c.args.self.now in
    let p = s.program.now in
    IfOk-weaker c.known.result _ _ (λ known w m called.
    entry_exact p s.marks.now m s.variables (s.count m called) s.claims.now s.claims_are (has c.empty.result) c.empty.ensures (has c.args.wanted.now) (has known)
    (subst (λ (S : Situation). IsExact p.header m (has c.args.wanted.now) (has known) (IsKnownFrom (outline_of p s.marks.now) m S s.claims.now (has c.empty.result))) c.names_of-situation.ensures (w m called))) c.known.ensures
