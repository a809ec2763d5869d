-- Turns at locations of a program.
use Rattle.std.specs.Prelude.{◌≡◌, List, length}
use Rattle.plank_prog.specs.declared.methods.Method.{Method}
use Rattle.plank_pic.specs.declared.literals.Exit.{Exit}
use Rattle.plank_fact.specs.Outlines.{Point}
use Rattle.plank_query.specs.declared.turns.OwnTurn.{OwnTurn}
use Rattle.plank_query.specs.declared.turns.SiteTurn.{SiteTurn}

-- the own turn at a location, by the exit
pub record IsOwnTurnAt {methods : List Method} (x : Point methods) (e : Exit) (t : OwnTurn) : Type 0 where
  pub variables : t.variables ≡ length x.method.variables
  pub action : t.action.now ≡ x.location.action
  pub exit : t.exit ≡ e

-- the turn of another call at a site, as a call of the method sees it
pub record IsSiteTurnAt {methods : List Method} (m : Method) (site : Point methods) (t : SiteTurn) : Type 0 where
  pub variables : t.variables ≡ length m.variables
  pub others : t.others ≡ length site.method.variables
  pub action : t.action.now ≡ site.location.action
