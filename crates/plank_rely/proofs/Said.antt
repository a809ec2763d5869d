-- The claims of a question about a site, put together.
use Rattle.std.specs.Prelude.{◌≡◌, ℕ, List, [], Contains}
use Rattle.std.proofs.Common.{subst}
use Rattle.plank_prog.specs.declared.headers.Header.{Header}
use Rattle.plank_prog.specs.declared.programs.Program.{Program}
use Rattle.plank_fact.specs.Outlines.{Point}
use Rattle.plank_query.specs.declared.predicates.Speaker.{Speaker}
use Rattle.plank_query.specs.declared.predicates.Claim.{Claim}
use Rattle.plank_claim.specs.declared.known.Known.{Known}
use Rattle.plank_claim.specs.Claims.{Adds, AreUsable, AddsClaims}
use Rattle.plank_claim.proofs.Answered.{nothing_in}
use Rattle.plank_method.specs.Deciding.{outline_of}
use Rattle.plank_rely.specs.Breaking.{AreSaid}

pub said_together : (program : Program) (words : List ℕ) (m l sm sl names : ℕ) (known : Known) (zeroth first second third : List Claim) → zeroth ≡ []
    → AddsClaims program words m l Speaker.Own Known.All zeroth first → ((h : Header) → Adds h first second (AreUsable names)) → AddsClaims program words sm sl Speaker.Other known second third
    → (x s : Point program.methods) → x.m ≡ m → x.l ≡ l → s.m ≡ sm → s.l ≡ sl → AreSaid (outline_of program words) x s names known third
said_together program words m l sm sl names known zeroth first second third empty own usable others x s xm xl em el = λ S p. (
  λ right.
      let c = (others s em el S p).0 right in
      let b = (usable program.header S p).0 c.0 in
      let a = (own x xm xl S p).0 b.0 in
      (a.1, b.1, c.1),
  λ parts.
      let a = (own x xm xl S p).1 ((λ d w. absurd (nothing_in d (subst (λ (cs : List Claim). Contains cs d) empty w))), parts.0) in
      let b = (usable program.header S p).1 (a, parts.1) in
      (others s em el S p).1 (b, parts.2),
)
