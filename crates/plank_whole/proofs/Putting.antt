-- A part that is put is the one that changes: each part of a frame has a cell of its own.
use Rattle.std.proofs.Common.{◌≡◌, ℕ, ◌≤◌, ◌<◌, Bool, true, false, List, length, refl, sym, ◌∙◌, ap, subst, inl, inr, arith}
use Rattle.std.specs.Prelude.{◌&&◌, slice_index_or, slice_set, replicate}
use Rattle.std.proofs.lemmas.Bool.{and_from, and_right, cases_Bool, cases_lt}
use Rattle.std.proofs.lemmas.List.{get_or-set_same, get_or-set_other}
use Rattle.std.proofs.lemmas.List.{get_or-replicate, get_or_past, length-replicate}
use Rattle.plank_pic.specs.declared.parts.Part.{Part}
use Rattle.plank_pic.specs.Frames.{Frame}
use Rattle.plank_pic.specs.Lawful.{part_fits}
use Rattle.plank_parts.specs.Codes.{part_code, part_of}
use Rattle.plank_parts.proofs.Rounds.{coded_part}
use Rattle.plank_whole.specs.Wholes.{SaysBesides, said_in}

module _ (F : Frame) (few_names : F.names ≤ 16) (few_pointers : length F.header.pointers ≤ 2) (few_flags : length F.header.flags ≤ 32)
    (said : List Bool) (there : length said ≡ 8704) (part : Part) (fits : part_fits F part ≡ true) where
  abbrev pub after : List Bool
  after = slice_set said (part_code part) true

  is_said : said_in F after part ≡ true
  is_said =
      let code = coded_part F few_names few_pointers few_flags part fits in
      let below : part_code part < 8704 = code.below in
      and_from (part_fits F part) (slice_index_or after (part_code part) false) fits
      (get_or-set_same said (part_code part) true false (omega arith))

  -- another part of the frame has another cell
  apart : (other : Part) → part_fits F other ≡ true → (other ≡ part → ⊥) → part_code other ≡ part_code part → ⊥
  apart other there other_one same =
      other_one (sym (coded_part F few_names few_pointers few_flags other there).back ∙ ap part_of same ∙ (coded_part F few_names few_pointers few_flags part fits).back)

  others : (other : Part) → (other ≡ part → ⊥) → said_in F after other ≡ said_in F said other
  others other other_one =
      elim (cases_Bool (part_fits F other)) [
        | inl is_there ↦ ap (λ b. part_fits F other && b) (get_or-set_other said (part_code part) (part_code other) true false (apart other is_there other_one))
        | inr not_there ↦ ap (λ b. b && slice_index_or after (part_code other) false) not_there ∙ sym (ap (λ b. b && slice_index_or said (part_code other) false) not_there)
      ]

  pub put_says : SaysBesides F part (said_in F said) (said_in F after)
  put_says = record { said = λ _. is_said; others = others }

-- nothing is said where no cell is set
unset : (n i : ℕ) → slice_index_or (replicate n false) i false ≡ false
unset n i = elim (cases_lt i n) [
  | inl below ↦ get_or-replicate n i false false below
  | inr past ↦ get_or_past (replicate n false) i false (subst (λ m. m ≤ i) (sym (length-replicate n false)) past)
]

pub unsaid : (F : Frame) (n : ℕ) (part : Part) → said_in F (replicate n false) part ≡ false
unsaid F n part = and_right (part_fits F part) (slice_index_or (replicate n false) (part_code part) false) (unset n (part_code part))
