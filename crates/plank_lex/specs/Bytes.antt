-- Which bytes separate tokens, and which make words.
use Rattle.std.specs.Prelude.{ℕ, Bool, ◌==◌, ◌||◌, ◌&&◌, nat_le}

abbrev pub line_feed : ℕ
line_feed = 10

abbrev pub underscore : ℕ
underscore = 95

-- a blank, a tab, a carriage return or a line feed
abbrev pub is_separator : ℕ → Bool
is_separator b = b == 32 || b == 9 || b == 13 || b == line_feed

-- a letter `a` to `z`
abbrev pub is_letter : ℕ → Bool
is_letter b = nat_le 97 b && nat_le b 122

-- a letter `A` to `Z`
abbrev pub is_capital : ℕ → Bool
is_capital b = nat_le 65 b && nat_le b 90

-- a digit `0` to `9`
abbrev pub is_digit : ℕ → Bool
is_digit b = nat_le 48 b && nat_le b 57

-- what may follow the first letter of a name
abbrev pub is_name_byte : ℕ → Bool
is_name_byte b = is_letter b || is_digit b || b == underscore

-- what a run of letters, digits and `_` is made of
abbrev pub is_run_byte : ℕ → Bool
is_run_byte b = is_name_byte b || is_capital b
