-- What the words of a statement say whose values are kept.
use Rattle.std.specs.Prelude.{◌+◌, List, ℕ, Option, Some, None, if◌then◌else◌, length, nat_lt, slice_get}
use Rattle.std.specs.Option.{option_and_then}
use Rattle.ld_forms.specs.Kept.{has_word}
use Rattle.lef_forms.specs.declared.symmetry.Symmetry.{Symmetry}
use Rattle.lef_forms.specs.declared.symmetry.Symmetry.TheVariants as symmetry
use Rattle.ld_forms.specs.Names.{is_name}
use Rattle.lef_forms.specs.Symmetry.{symmetry_code, symmetry_word}
use Rattle.lef_tree.specs.declared.tree.LefRect.{LefRect}

-- words, each the list of its bytes
abbrev pub Words : Type 0
Words = List (List ℕ)

-- the first word
abbrev pub one_of : Words → Option (List ℕ)
one_of words = slice_get words 0

-- the second word
abbrev pub second_of : Words → Option (List ℕ)
second_of words = slice_get words 1

-- the second of two words, or the first where there is no other
abbrev pub or_first : Option (List ℕ) → Option (List ℕ) → Option (List ℕ)
or_first (Some second) first = Some second
or_first None first = first

-- the second word, or the first where there is no other
abbrev pub last_of_two : Words → Option (List ℕ)
last_of_two words = or_first (second_of words) (one_of words)

-- the name that a word is
abbrev pub name_in : List ℕ → Option (List ℕ)
name_in word = if is_name word then Some word else None

-- the name that the first word is
abbrev pub name_of : Words → Option (List ℕ)
name_of words = option_and_then name_in (one_of words)

-- two corners
abbrev pub corners : Option (List ℕ) → Option (List ℕ) → Option (List ℕ) → Option (List ℕ) → Option LefRect
corners (Some x1) (Some y1) (Some x2) (Some y2) = Some (record { x1 = x1; y1 = y1; x2 = x2; y2 = y2 })
corners _ _ _ _ = None

-- two corners, of which the first coordinate stands at this place
abbrev pub corners_at : Words → ℕ → Option LefRect
corners_at words at = corners (slice_get words at) (slice_get words (at + 1)) (slice_get words (at + 2)) (slice_get words (at + 3))

-- two corners, behind the two words of a mask, if there are any of these
abbrev pub rect_of : Words → Option LefRect
rect_of words = corners_at words (if nat_lt 4 (length words) then 2 else 0)

-- the bit of a symmetry, if it is among them
abbrev pub symmetry_bit : Words → Symmetry → ℕ
symmetry_bit words s = if has_word (symmetry_word s) words then symmetry_code s else 0

-- the bits of all symmetries that are among them
abbrev pub symmetries_of : Words → ℕ
symmetries_of words = symmetry_bit words symmetry.X + symmetry_bit words symmetry.Y + symmetry_bit words symmetry.R90
