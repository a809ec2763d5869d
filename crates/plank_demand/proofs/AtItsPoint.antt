-- Obligations of locations, from those of the location of their numbers.
use Rattle.std.specs.Prelude.{◌≡◌, ◌↔◌, ℕ, ◌<◌, Bool, true, List, length, slice_get}
use Rattle.std.specs.Option.{option_map_or}
use Rattle.std.proofs.Common.{refl}
use Rattle.plank_base.specs.declared.obligations.Kind.{Kind}
use Rattle.plank_base.specs.declared.obligations.Obligation.{Obligation}
use Rattle.plank_prog.specs.declared.programs.Program.{Program}
use Rattle.plank_prog.specs.Methods.{location_count}
use Rattle.plank_fact.specs.Outlines.{Outline}
use Rattle.plank_fact.specs.Obligations.{FailsThere, FailsAtItsPoint, FailsAs}
use Rattle.plank_marks.proofs.Rooms.{point_at}
use Rattle.plank_judge.specs.Verdicts.{outline_of}
use Rattle.plank_demand.specs.Places.{AtPoint}

pub at_its_point : (p : Program) (words : List ℕ) (o : Obligation) → o.method < length p.methods → o.location < option_map_or location_count (slice_get p.methods o.method) 0
    → (b : Bool) → AtPoint p words (record { method = o.method; location = o.location }) (λ O x. (b ≡ true) ↔ FailsThere o.kind O x) → (b ≡ true) ↔ FailsAtItsPoint (outline_of p words) o
at_its_point p words o below within b so =
    let w = point_at p.methods o.method o.location below within in (
      (λ e. record { at = w.point; same_method = w.of_method; same_location = w.of_location; fails = (so w.point w.of_method w.of_location).0 e }),
      (λ v. (so v.at v.same_method v.same_location).1 v.fails),
    )

-- each kind but the first two is of a location
pub of_location : (O : Outline) (o : Obligation) (k : Kind) → (k ≡ Kind.Start → ⊥) → (k ≡ Kind.Edges → ⊥) → (b : Bool) → (b ≡ true) ↔ FailsAtItsPoint O o → (b ≡ true) ↔ FailsAs k O o
of_location O o Kind.Start not_start not_edges b so = absurd (not_start refl)
of_location O o Kind.Edges not_start not_edges b so = absurd (not_edges refl)
of_location O o Kind.Null not_start not_edges b so = so
of_location O o Kind.Target not_start not_edges b so = so
of_location O o Kind.Publish not_start not_edges b so = so
of_location O o Kind.Keep not_start not_edges b so = so
of_location O o Kind.Order not_start not_edges b so = so
of_location O o Kind.Footprint not_start not_edges b so = so
of_location O o Kind.Change not_start not_edges b so = so
of_location O o Kind.Answer not_start not_edges b so = so
