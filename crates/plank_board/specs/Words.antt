-- Where the words of a board stand: first the epoch, then a settled word for each method, then the words of marks.
use Rattle.std.specs.Prelude.{ℕ, ◌+◌, ◌/◌, ◌%◌, Bool, List, [], ◌∷◌, slice_index, bit_or}
use Rattle.plank_bits.specs.Words.{is_set}

-- how often a seat has told that it set marks that were clear
abbrev pub epoch : List ℕ → ℕ
epoch ws = slice_index ws 0

-- one more than the last epoch at which the method m was found to force nothing new; 0 where nothing is known of it
abbrev pub settled : List ℕ → ℕ → ℕ
settled ws m = slice_index ws (m + 1)

-- the i-th word of marks, behind the words of so many methods
abbrev pub mark_word : ℕ → List ℕ → ℕ → ℕ
mark_word methods ws i = slice_index ws (methods + 1 + i)

-- which marks are set
abbrev pub marks : ℕ → List ℕ → ℕ → Bool
marks methods ws k = is_set (mark_word methods ws (k / 64)) (k % 64)

-- the words of two lists, each with the bits of both
abbrev pub bits_of_both : List ℕ → List ℕ → List ℕ
bits_of_both [] ys = ys
bits_of_both (x ∷ xs) [] = x ∷ xs
bits_of_both (x ∷ xs) (y ∷ ys) = bit_or x y ∷ bits_of_both xs ys
