-- What an effect keeps of the facts of its method, as the facts are gone through by their numbers.
use Rattle.std.specs.Prelude.{◌≡◌, ℕ, Bool, List, [], ◌∷◌, slice_get, Option, Some, None, if◌then◌else◌}
use Rattle.std.specs.Option.{option_map_or, option_and_then}
use Rattle.plank_bits.specs.Words.{has}
use Rattle.plank_prog.specs.declared.blocks.Block.{Block}
use Rattle.plank_prog.specs.declared.headers.Header.{Header}
use Rattle.plank_prog.specs.declared.methods.Action.{Action}
use Rattle.plank_prog.specs.declared.methods.Method.{Method}
use Rattle.plank_prog.specs.declared.programs.Program.{Program}
use Rattle.plank_fact.specs.declared.facts.Fact.{Fact}
use Rattle.plank_fact.specs.Outlines.{Point, mark_number}
use Rattle.plank_fact.specs.ReportedEffects.{kept_from}
use Rattle.plank_fact.specs.Tables.{facts_of}

-- the facts of the m-th method
abbrev pub table : Header → List Method → ℕ → List Fact
table h methods m = option_map_or (facts_of h) (slice_get methods m) []

abbrev pub listed_if : Bool → Fact → List Fact
listed_if kept fact = if kept then fact ∷ [] else []

-- the block at a location
abbrev pub block_in : Action → Option Block
block_in (Action.Block b) = Some b
block_in (Action.Copy to from next) = None
block_in (Action.New to next) = None
block_in (Action.Return answer) = None

abbrev pub block_at : List Method → ℕ → ℕ → Option Block
block_at methods m l = option_and_then (λ location. block_in location.action) (option_and_then (λ method. slice_get method.locations l) (slice_get methods m))

-- these are what an effect at the l-th location of the m-th method keeps of its claims, where the marks are those of words
abbrev pub AreKept : Program → List ℕ → ℕ → ℕ → List Fact → Type 0
AreKept p words m l facts =
    (x : Point p.methods) → x.m ≡ m → x.l ≡ l → (b : Block) → x.location.action ≡ Action.Block b
    → facts ≡ kept_from (λ n. has words (mark_number p.methods x.m x.l n)) b 0 (facts_of p.header x.method)
