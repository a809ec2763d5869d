-- The keys of a schedule, each once and in rising order.
use Rattle.std.specs.Prelude.{ℕ, ℤ, false, not, List, [], slice_get, int_lt, if◌then◌else◌}
use Rattle.std.specs.Option.{option_map_or}
use Rattle.std.specs.List.{fold, prefix_len, insert}
use Rattle.plank_trace.specs.declared.lines.Line.{Line}

-- one more key: where it is not there yet, it goes before the first that is above it
abbrev pub with_key_at : List ℤ → ℕ → ℤ → List ℤ
with_key_at keys n k =
    if option_map_or (λ x. not (int_lt k x)) (slice_get keys n) false then keys else insert keys n k

abbrev pub with_key : List ℤ → ℤ → List ℤ
with_key keys k = with_key_at keys (prefix_len (λ x. int_lt x k) keys) k

abbrev pub with_key_of : List ℤ → Line → List ℤ
with_key_of keys (Line.Call thread name key) = with_key keys key
with_key_of keys (Line.Go thread) = keys

abbrev pub keys_of : List Line → List ℤ
keys_of lines = fold with_key_of [] lines
