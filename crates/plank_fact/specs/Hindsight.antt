-- The rule of hindsight: from what was true at some moment of a call, and what is true now, to what was true at some
-- moment. Facts after a step use it.
use Rattle.std.specs.Prelude.{◌≡◌, Bool, true, false, ◌&&◌, Option, Some, None}
use Rattle.std.specs.Option.{option_map_or}
use Rattle.plank_prog.specs.declared.methods.Method.{Method}
use Rattle.plank_pic.specs.declared.parts.Part.{Part}
use Rattle.plank_pic.specs.declared.literals.Literal.{Literal}
use Rattle.plank_pic.specs.Pictures.{Picture}
use Rattle.plank_pic.specs.Lawful.{IsLawful}
use Rattle.plank_pic.specs.Truths.{Caller, truth}
use Rattle.plank_fact.specs.Literals.{past_name, is_field_of}
use Rattle.plank_fact.specs.Outlines.{Outline, Point}
use Rattle.plank_fact.specs.OwnSteps.{own_call, method_frame}
use Rattle.plank_fact.specs.Effects.{IsEffect}

-- the node of a past fact is shared; of the set nothing is asked
abbrev pub is_node_shared : Picture → Caller → Literal → Bool
is_node_shared p c L = option_map_or (λ q. p (Part.Shared (c.name q))) (past_name L) true

-- a literal of a past fact is true, and its node is shared
abbrev pub is_witnessed : Picture → Caller → Literal → Bool
is_witnessed p c L = truth p c L && is_node_shared p c L

-- each of these is true
abbrev pub AllTrue : (Literal → Type 0) → Picture → Caller → Type 0
AllTrue Those p c = (L : Literal) → Those L → truth p c L ≡ true

-- what is true now, if anything: a field of the node of the past fact
abbrev pub may_be_now : Literal → Option Literal → Bool
may_be_now past None = true
may_be_now past (Some now) = option_map_or (λ q. is_field_of q now) (past_name past) false

-- The past fact and what is true now give another past fact, where the lasting literals are true. Either what is true now
-- was true already when the past fact was: then the conclusion was too. Or an effect has made it true later: then the
-- conclusion was true when it had.
pub record IsHindsight (O : Outline) (m : Method) (Lasting : Literal → Type 0) (past : Literal) (now : Option Literal) (conclusion : Literal) : Type 0 where
  pub fits : may_be_now past now ≡ true
  pub already : (p : Picture) → IsLawful (method_frame O.header m) p → AllTrue Lasting p (own_call m) → is_witnessed p (own_call m) past ≡ true
      → option_map_or (truth p (own_call m)) now true ≡ true → is_witnessed p (own_call m) conclusion ≡ true
  pub later : (b : Literal) → now ≡ Some b → (site : Point O.methods) (before after : Picture) → IsEffect O m site before after
      → AllTrue Lasting before (own_call m) → is_node_shared before (own_call m) past ≡ true
      → truth before (own_call m) b ≡ false → truth after (own_call m) b ≡ true → is_witnessed after (own_call m) conclusion ≡ true
