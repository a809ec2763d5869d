-- The numbers of the parts of two pictures of one frame, one before a step and one after it, and the pictures that a full
-- assignment of values to them is. A part that the step keeps has one number for both.
use Rattle.std.specs.Prelude.{◌≡◌, refl, ◌≤◌, ◌<◌, ◌*◌, ℕ, Bool, true, false, not, ◌&&◌, ◌==◌, List, [], ◌∷◌, ◌++◌, length, slice_get, slice_index_or, Option, Some, None}
use Rattle.plank_pic.specs.declared.parts.Part.{Part}
use Rattle.plank_pic.specs.Frames.{Frame}
use Rattle.plank_pic.specs.Pictures.{Picture}
use Rattle.plank_pic.specs.Lawful.{part_fits}
use Rattle.plank_parts.specs.declared.sides.Side.{Side}
use Rattle.plank_parts.specs.declared.sides.Numbered.{Numbered}
use Rattle.std.specs.Coded.{Coded, code_by, coded×, coded_ℕ, coded_list, coded_option}
use Rattle.plank_prog.specs.declared.headers.Header.{Header}
use Rattle.plank_prog.specs.contracts.headers.Header as header_row
use Rattle.plank_parts.specs.contracts.sides.Numbered as numbered_row
use Rattle.plank_parts.specs.Codes.{part_code, part_of}

-- numbers by codes, before and after, and what each number is of
pub record Table : Type 0 where
  pub before : List ℕ
  pub after : List ℕ
  pub parts : List Numbered

pub record Numbers : Type 0 where
  pub frame : Frame
  pub table : Table

-- a numbering is told apart by the parts of its frame and of its table
abbrev pub numbers_code : Coded Numbers
numbers_code =
    code_by ((Header × (ℕ × Option ℕ)) × (List ℕ × (List ℕ × List Numbered)))
    (coded× (coded× header_row.the_row.coded (coded× coded_ℕ (coded_option coded_ℕ))) (coded× (coded_list coded_ℕ) (coded× (coded_list coded_ℕ) (coded_list numbered_row.the_row.coded))))
    (λ n. ((n.frame.header, (n.frame.names, n.frame.root)), (n.table.before, (n.table.after, n.table.parts))))
    (λ p. record { frame = record { header = p.0.0; names = p.0.1.0; root = p.0.1.1 }; table = record { before = p.1.0; after = p.1.1.0; parts = p.1.1.1 } })
    (λ _. refl)

abbrev pub side_of : Table → Side → List ℕ
side_of T Side.Before = T.before
side_of T Side.After = T.after

-- the number of a part of the picture before or after
abbrev pub number : Table → Side → Part → ℕ
number T side part = slice_index_or (side_of T side) (part_code part) 0

-- the picture that a full assignment is
abbrev pub picture_of : Numbers → Side → (ℕ → Bool) → Picture
picture_of N side full part = part_fits N.frame part && full (number N.table side part)

-- the part has a number of its own after the step
abbrev pub is_moved : Table → Part → Bool
is_moved T part = not (number T Side.After part == number T Side.Before part)

-- the picture says nothing of parts that its frame does not have
abbrev pub IsWithin : Frame → Picture → Type 0
IsWithin F p = (part : Part) → part_fits F part ≡ false → p part ≡ false

-- ---- what every numbering keeps

abbrev pub numbered : Part → Side → Numbered
numbered part side = record { part = part; side = side }

pub record IsNumbering (F : Frame) (T : Table) : Type 0 where
  pub before : (part : Part) → part_fits F part ≡ true → slice_get T.parts (number T Side.Before part) ≡ Some (numbered part Side.Before)
  pub moved : (part : Part) → part_fits F part ≡ true → is_moved T part ≡ true → slice_get T.parts (number T Side.After part) ≡ Some (numbered part Side.After)

-- ---- each pair of pictures has an assignment

-- what the picture of this side says of a part
abbrev pub said_on : Picture → Picture → Side → Part → Bool
said_on p r Side.Before part = p part
said_on p r Side.After part = r part

-- what a pair of pictures says of the part of a number, where there is one
abbrev pub said_by : Picture → Picture → Bool → Option Numbered → Bool
said_by p r past (Some entry) = said_on p r entry.side entry.part
said_by p r past None = past

-- the assignment that two pictures are, with any values past their parts
abbrev pub assignment : Table → Picture → Picture → (ℕ → Bool) → ℕ → Bool
assignment T p r more n = said_by p r (more n) (slice_get T.parts n)

-- two pictures that agree at each part that is not moved
abbrev pub AgreeUnmoved : Numbers → Picture → Picture → Type 0
AgreeUnmoved N p r = (part : Part) → part_fits N.frame part ≡ true → is_moved N.table part ≡ false → r part ≡ p part

pub record IsAssignment (N : Numbers) (p r : Picture) (more : ℕ → Bool) : Type 0 where
  pub before : picture_of N Side.Before (assignment N.table p r more) ≡ p
  pub after : picture_of N Side.After (assignment N.table p r more) ≡ r
  pub more_values : (n : ℕ) → length N.table.parts ≤ n → assignment N.table p r more n ≡ more n

abbrev pub HasAssignments : Numbers → Type 0
HasAssignments N = (p r : Picture) (more : ℕ → Bool) → IsWithin N.frame p → IsWithin N.frame r → AgreeUnmoved N p r → IsAssignment N p r more

-- ---- building

-- a table with one more code: of no part, of a part that is kept, or of a part that is not
abbrev pub with_code : Table → Part → Bool → Bool → Table
with_code T part false kept = record { before = T.before ++ 0 ∷ []; after = T.after ++ 0 ∷ []; parts = T.parts }
with_code T part true true = record {
  before = T.before ++ length T.parts ∷ [];
  after = T.after ++ length T.parts ∷ [];
  parts = T.parts ++ numbered part Side.Before ∷ [];
}
with_code T part true false = record {
  before = T.before ++ length T.parts ∷ [];
  after = T.after ++ length (T.parts ++ numbered part Side.Before ∷ []) ∷ [];
  parts = (T.parts ++ numbered part Side.Before ∷ []) ++ numbered part Side.After ∷ [];
}

-- the number in the table of a code
abbrev pub coded : List ℕ → ℕ → ℕ
coded numbers code = slice_index_or numbers code 0

-- the code is that of a part of the frame
abbrev pub is_coded : Frame → ℕ → Bool
is_coded F c = part_fits F (part_of c) && (part_code (part_of c) == c)

-- the codes below this one have their numbers
pub record Covers (F : Frame) (keeps : Part → Bool) (codes : ℕ) (T : Table) : Type 0 where
  pub before_count : length T.before ≡ codes
  pub after_count : length T.after ≡ codes
  pub few : length T.parts ≤ 2 * codes
  pub before : (c : ℕ) → c < codes → is_coded F c ≡ true → slice_get T.parts (coded T.before c) ≡ Some (numbered (part_of c) Side.Before)
  pub kept : (c : ℕ) → c < codes → is_coded F c ≡ true → keeps (part_of c) ≡ true → coded T.after c ≡ coded T.before c
  pub moved : (c : ℕ) → c < codes → is_coded F c ≡ true → keeps (part_of c) ≡ false → slice_get T.parts (coded T.after c) ≡ Some (numbered (part_of c) Side.After)
