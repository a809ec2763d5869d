-- What rules ask of each name, or of each term, in turn.
use Rattle.std.specs.Prelude.{ℕ, zero, suc, Bool, true, not, ◌&&◌}
use Rattle.std.specs.Bool.{beq}
use Rattle.plank_pic.specs.declared.parts.KeyName.{KeyName}
use Rattle.plank_pic.specs.declared.parts.Term.{Term}
use Rattle.plank_pic.specs.declared.parts.Place.{Place}
use Rattle.plank_pic.specs.declared.parts.Part.{Part}
use Rattle.plank_pic.specs.Pictures.{Picture, place}
use Rattle.plank_pic.specs.Lawful.{◌⇒◌}
use Rattle.plank_lawful.specs.declared.asking.Asked.{Asked}
use Rattle.plank_lawful.specs.Indexes.{fixed_term}

-- whether each number below n passes
unfoldable pub all_below : (ℕ → Bool) → ℕ → Bool
all_below test zero = true
all_below test (suc n) = all_below test n && test n

-- two names are the same for a third
abbrev pub same_as : Picture → ℕ → ℕ → ℕ → Bool
same_as p i j n = beq (p (Part.Same i n)) (p (Part.Same j n))

-- two pointers lead to a name both or none; a pointer leads to both names or none
abbrev pub lead_alike : Picture → Place → Place → ℕ → Bool
lead_alike p x y n = beq (p (Part.Leads x n)) (p (Part.Leads y n))

abbrev pub led_alike : Picture → Place → ℕ → ℕ → Bool
led_alike p x i j = beq (p (Part.Leads x i)) (p (Part.Leads x j))

-- there are chains from two names to a third, or to the two from it, both or none
abbrev pub chains_alike : Picture → ℕ → ℕ → ℕ → Bool
chains_alike p i j n = beq (p (Part.Chain i n)) (p (Part.Chain j n))

abbrev pub chained_alike : Picture → ℕ → ℕ → ℕ → Bool
chained_alike p n i j = beq (p (Part.Chain n i)) (p (Part.Chain n j))

-- they have the stop node both or none
abbrev pub picks_alike : Picture → KeyName → ℕ → ℕ → ℕ → ℕ → Bool
picks_alike p k i j n s = beq (p (Part.Picks k i n s)) (p (Part.Picks k j n s))

abbrev pub picked_alike : Picture → KeyName → ℕ → ℕ → ℕ → ℕ → Bool
picked_alike p k n i j s = beq (p (Part.Picks k n i s)) (p (Part.Picks k n j s))

-- two pointers lead outside to the same as a third, both or none
abbrev pub beyond_as : Picture → Place → Place → Place → Bool
beyond_as p x y z = beq (p (Part.SameBeyond x z)) (p (Part.SameBeyond y z))

-- what lies at or above the one lies at or above the other
abbrev pub follows : Picture → Term → Term → Term → Bool
follows p s t u = p (Part.AtMost t u) ⇒ p (Part.AtMost s u)

-- what the pointer leads to also has something
abbrev pub led_has : Picture → Place → ℕ → Part → Bool
led_has p x n part = p (Part.Leads x n) ⇒ p part

-- the numbers are of names, but for the last, where they are of the other terms
abbrev pub passes : Picture → Asked → ℕ → Bool
passes p (Asked.SameAs i j) n = same_as p i j n
passes p (Asked.LeadsNowhere x) n = not (p (Part.Leads x n))
passes p (Asked.NoChainTo i) n = not (p (Part.Chain n i))
passes p (Asked.LeadsAlike i j f) n = lead_alike p (place i f) (place j f) n && led_alike p (place n f) i j
passes p (Asked.ChainsAlike i j) n = chains_alike p i j n && chained_alike p n i j
passes p (Asked.PicksAlike k c s) n = picks_alike p k c.left c.right n s && picked_alike p k n c.left c.right s
passes p (Asked.LeadsTo x j) n = led_has p x n (Part.Same j n)
passes p (Asked.BeyondAs x y f) n = beyond_as p x y (place n f)
passes p (Asked.VisitedFrom k x) n = led_has p x n (Part.Visits k n)
passes p (Asked.ChainGoesOn i j) n = led_has p (place i 0) n (Part.Chain n j)
passes p (Asked.ChainGrows i j) n = led_has p (place j 0) n (Part.Chain i n)
passes p (Asked.NodeFollows s t) n = follows p s t (Term.Node n)
passes p (Asked.TermFollows s t) n = follows p s t (fixed_term n)
