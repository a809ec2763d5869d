-- Nodes inside chains, as conditions see them: where their keys may lie to a walked key, and whether a keep tells whether the
-- walk visits them.
use Rattle.std.specs.Prelude.{ℕ, zero, suc, pos, negsuc, Bool, true, false, not, ◌&&◌, [], ◌∷◌, ◌^◌, slice_get, Option, Some, None}
use Rattle.std.specs.Bool.{beq}
use Rattle.std.specs.Option.{option_map_or}
use Rattle.plank_base.specs.declared.keys.Key.{Key}
use Rattle.plank_base.specs.declared.limits.TheConstants.{FLAGS_LIMIT}
use Rattle.plank_prog.specs.declared.headers.Header.{Header}
use Rattle.plank_prog.specs.declared.headers.KeyOrder.{KeyOrder}
use Rattle.plank_prog.specs.Conditions.{View}
use Rattle.plank_prog.specs.Views.{view_of, is_frozen}
use Rattle.plank_pic.specs.declared.parts.Term.{Term}
use Rattle.plank_pic.specs.Below.{some_below}
use Rattle.plank_pic.specs.Lawful.{keeps_hold}
use Rattle.plank_goals.specs.declared.spots.Spot.{Spot}

abbrev pub spot_at : ℕ → Spot
spot_at zero = Spot.AtMin
spot_at (suc zero) = Spot.Lower
spot_at (suc (suc zero)) = Spot.Equal
spot_at (suc (suc (suc zero))) = Spot.Higher
spot_at (suc (suc (suc (suc n)))) = Spot.AtMax

-- a key that lies there to the walked key 0
abbrev pub spot_key : Spot → Key
spot_key Spot.AtMin = Key.Min
spot_key Spot.Lower = Key.Num (negsuc 0)
spot_key Spot.Equal = Key.Num (pos 0)
spot_key Spot.Higher = Key.Num (pos 1)
spot_key Spot.AtMax = Key.Max

-- the terms between which a walked key lies, where a key between two others lies there to it
abbrev pub room_between : ℕ → ℕ → Spot → Option (Term × Term)
room_between low high Spot.AtMin = None
room_between low high Spot.Lower = Some (Term.Node low, Term.Max)
room_between low high Spot.Equal = Some (Term.Node low, Term.Node high)
room_between low high Spot.Higher = Some (Term.Min, Term.Node high)
room_between low high Spot.AtMax = None

-- the same of a key inside the chain from y to q
abbrev pub room : KeyOrder → Spot → ℕ → ℕ → Option (Term × Term)
room KeyOrder.Ascending spot y q = room_between y q spot
room KeyOrder.Descending spot y q = room_between q y spot
room KeyOrder.Free spot y q = Some (Term.Min, Term.Max)

abbrev pub first_order : Header → KeyOrder
first_order h = option_map_or (λ p. p.order) (slice_get h.pointers 0) KeyOrder.Free

-- what such a node shows to conditions, its pointer not null
abbrev pub inner_view : Key → ℕ → Bool → View
inner_view key flags visited = view_of key flags (false ∷ false ∷ []) (Key.Num (pos 0)) visited

-- it is frozen, and meets every keep where it is visited and not where it is not, or the other way round
abbrev pub tells : Header → Key → ℕ → Bool
tells h key flags =
    is_frozen h key flags && not (beq (keeps_hold h (inner_view key flags true)) (keeps_hold h (inner_view key flags false)))

-- that is so for some flags
abbrev pub some_tell : Header → Spot → Bool
some_tell h spot = some_below (tells h (spot_key spot)) (2 ^ FLAGS_LIMIT)
