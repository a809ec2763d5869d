-- The obligations of a program, in their order: two of the whole text, and then by method, location and kind. The first
-- that fails is reported.
use Rattle.std.specs.Prelude.{ℕ, suc, ◌==◌, List, [], ◌∷◌, ◌++◌, length, map, if◌then◌else◌}
use Rattle.plank_base.specs.declared.obligations.Kind.{Kind}
use Rattle.plank_base.specs.declared.obligations.Obligation.{Obligation}
use Rattle.plank_base.specs.declared.places.Place.{Place}
use Rattle.plank_prog.specs.declared.methods.Action.{Action}
use Rattle.plank_prog.specs.declared.methods.Location.{Location}
use Rattle.plank_prog.specs.declared.methods.Method.{Method}
use Rattle.plank_prog.specs.declared.methods.MethodKind.{MethodKind}

abbrev pub text_begin : Place
text_begin = record { line = 1; column = 1; byte = 0 }

abbrev pub start_obligation : Obligation
start_obligation = record { kind = Kind.Start; method = 0; location = 0; place = text_begin }

abbrev pub edges_obligation : Obligation
edges_obligation = record { kind = Kind.Edges; method = 0; location = 0; place = text_begin }

abbrev pub write_kinds : List Kind
write_kinds = Kind.Target ∷ Kind.Publish ∷ Kind.Keep ∷ Kind.Order ∷ Kind.Footprint ∷ Kind.Change ∷ []

-- what an action of a method of this kind has to meet; an upkeep answers nothing
abbrev pub kinds_of : MethodKind → Action → List Kind
kinds_of kind (Action.Block b) = Kind.Null ∷ (if length b.writes == 0 then [] else write_kinds)
kinds_of kind (Action.Copy to from next) = []
kinds_of kind (Action.New to next) = []
kinds_of (MethodKind.Set op) (Action.Return answer) = Kind.Answer ∷ []
kinds_of MethodKind.Upkeep (Action.Return answer) = []

abbrev pub obligation_at : ℕ → ℕ → Location → Kind → Obligation
obligation_at m l x kind = record { kind = kind; method = m; location = l; place = x.place }

-- of the m-th method's locations from the l-th on
abbrev pub of_locations : MethodKind → ℕ → ℕ → List Location → List Obligation
of_locations kind m l [] = []
of_locations kind m l (x ∷ xs) = map (obligation_at m l x) (kinds_of kind x.action) ++ of_locations kind m (suc l) xs

-- of the methods from the m-th on
abbrev pub of_methods : ℕ → List Method → List Obligation
of_methods m [] = []
of_methods m (x ∷ xs) = of_locations x.kind m 0 x.locations ++ of_methods (suc m) xs

abbrev pub obligations : List Method → List Obligation
obligations methods = start_obligation ∷ edges_obligation ∷ of_methods 0 methods
