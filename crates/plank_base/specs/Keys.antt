-- The order of keys: MIN below every number, MAX above every number.
use Rattle.std.specs.Prelude.{Bool, true, false, not, int_lt}
use Rattle.plank_base.specs.declared.keys.Key.{Key}
use Rattle.plank_base.specs.declared.keys.Key.TheVariants.{Min, Num, Max}

-- whether a lies strictly below b
abbrev pub is_less : Key → Key → Bool
is_less Min Min = false
is_less Min (Num b) = true
is_less Min Max = true
is_less (Num a) Min = false
is_less (Num a) (Num b) = int_lt a b
is_less (Num a) Max = true
is_less Max b = false

-- whether a lies at or below b
abbrev pub is_at_most : Key → Key → Bool
is_at_most a b = not (is_less b a)

-- whether a key is a number
abbrev pub is_ordinary : Key → Bool
is_ordinary Min = false
is_ordinary (Num a) = true
is_ordinary Max = false
