-- What breaks claims, site by site.
use Rattle.std.specs.Prelude.{◌≡◌, ◌↔◌, ℕ, ◌<◌, true, false, List}
use Rattle.plank_pic.specs.declared.literals.Literal.{Literal}
use Rattle.plank_pic.specs.Pictures.{Picture}
use Rattle.plank_pic.specs.Calls.{is_usable}
use Rattle.plank_pic.specs.Truths.{truth}
use Rattle.plank_fact.specs.declared.facts.Fact.{Fact}
use Rattle.plank_fact.specs.Tables.{name_count}
use Rattle.plank_fact.specs.Outlines.{Outline, Point, IsClaimed}
use Rattle.plank_fact.specs.OwnSteps.{own_call}
use Rattle.plank_fact.specs.Effects.{IsEffect}
use Rattle.plank_fact.specs.Forced.{IsBroken}
use Rattle.plank_query.specs.declared.situations.Situation.{Situation}
use Rattle.plank_query.specs.declared.predicates.Speaker.{Speaker}
use Rattle.plank_query.specs.declared.predicates.Claim.{Claim}
use Rattle.plank_query.specs.Predicates.{AreRight}
use Rattle.plank_claim.specs.declared.known.Known.{Known}
use Rattle.plank_claim.specs.Claims.{AreTrue, AreUsable}

-- a literal is false after some effect of this site, before which all that is claimed at the location was true
pub record IsBrokenBy (O : Outline) (x site : Point O.methods) (L : Literal) : Type 0 where
  pub before : Picture
  pub after : Picture
  pub effect : IsEffect O x.method site before after
  pub claimed : (K : Literal) → IsClaimed O x (Fact.Now K) → truth before (own_call x.method) K ≡ true
  pub usable : (i : ℕ) → i < name_count x.method → is_usable before i ≡ true
  pub false_after : truth after (own_call x.method) L ≡ false

-- the fact is broken by this site
abbrev pub IsFactBrokenBy : (O : Outline) (x site : Point O.methods) → Fact → Type 0
IsFactBrokenBy O x site f = (L : Literal) × (f ≡ Fact.Now L) × IsBrokenBy O x site L

-- by a site of the m-th method before its l-th location
abbrev pub IsBrokenWithin : (O : Outline) → Point O.methods → ℕ → ℕ → Fact → Type 0
IsBrokenWithin O x m l f = (L : Literal) × (f ≡ Fact.Now L) × (w : IsBroken O x L) × (w.site.m ≡ m) × (w.site.l < l)

-- by a site of one of the first methods
abbrev pub IsBrokenBefore : (O : Outline) → Point O.methods → ℕ → Fact → Type 0
IsBrokenBefore O x m f = (L : Literal) × (f ≡ Fact.Now L) × (w : IsBroken O x L) × (w.site.m < m)

-- ---- a question

-- the claims say what is claimed at the location of the own call, that its first names are usable, and what is known at the
-- site to the other call
abbrev pub AreSaid : (O : Outline) (x site : Point O.methods) → ℕ → Known → List Claim → Type 0
AreSaid O x site names known claims =
    (S : Situation) (p : Picture) → AreRight O.header S p claims ↔ (AreTrue O x Speaker.Own Known.All S p × AreUsable names S p × AreTrue O site Speaker.Other known S p)
