-- Terms that are ordered as their ranks are, and where the order of two terms is kept.
use Rattle.std.specs.Prelude.{ℕ, ◌+◌, ◌-◌, ◌*◌, ◌/◌, ◌%◌, Bool, not, List, slice_index_or, nat_lt, if◌then◌else◌}
use Rattle.std.specs.Bool.{beq}
use Rattle.plank_pic.specs.declared.parts.Part.{Part}
use Rattle.plank_pic.specs.Frames.{Frame}
use Rattle.plank_pic.specs.Pictures.{Picture}
use Rattle.plank_lawful.specs.Asked.{all_below}
use Rattle.plank_lawful.specs.Indexes.{fixed_count, term_at}

abbrev pub term_count : Frame → ℕ
term_count F = F.names + fixed_count F

-- the column of a term by its index, which is its row too: names first
abbrev pub fixed_column : ℕ → ℕ
fixed_column n = if nat_lt n 5 then 16 + n else 21 + 2 * ((n - 5) % 3) + (n - 5) / 3

abbrev pub order_column : Frame → ℕ → ℕ
order_column F n = if nat_lt n F.names then n else fixed_column (n - F.names)

-- one term lies at or below another where its rank does
abbrev pub is_ranked : Frame → Picture → List ℕ → ℕ → ℕ → Bool
is_ranked F p ranks a b = beq (p (Part.AtMost (term_at F a) (term_at F b))) (not (nat_lt (slice_index_or ranks b 0) (slice_index_or ranks a 0)))

abbrev pub row_is_ranked : Frame → Picture → List ℕ → ℕ → Bool
row_is_ranked F p ranks a = all_below (is_ranked F p ranks a) (term_count F)

abbrev pub order_is_ranked : Frame → Picture → List ℕ → Bool
order_is_ranked F p ranks = all_below (row_is_ranked F p ranks) (term_count F)
