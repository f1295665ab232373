-- Single fields, with the set, the limit or the rule of each.
use Rattle.std.specs.Prelude.{◌==◌, ◌&&◌, Bool, true, false, List, ℕ, ℤ, pos, negsuc, Option, Some, None, if◌then◌else◌, is_none, length, nat_le}
use Rattle.std.specs.List.{find}
use Rattle.std.specs.Str.{bytes_eq}
use Rattle.odb_base.specs.Geometry.{is_coordinate}
use Rattle.odb_base.specs.Name.{name_fault}
use Rattle.odb_fields.specs.Reading.{bytes_at, i32_at, u32_at, u8_at}
use Rattle.saved_fields.specs.Reading.{Reading, judged, plain, ◌by◌}

-- the value, where it passes
abbrev pub such : {A : Type 0} → (A → Bool) → A → Option A
such passes x = if passes x then Some x else None

-- ---- numbers

-- the number is at least the least and at most the most
abbrev pub is_between : ℕ → ℕ → ℕ → Bool
is_between least most n = nat_le least n && nat_le n most

-- a number of one byte, up to this one
unfoldable pub small_at : ℕ → Reading ℕ
small_at most input = judged (such (is_between 0 most)) (plain u8_at) input

-- a number of four bytes, of these
unfoldable pub number_at : ℕ → ℕ → Reading ℕ
number_at least most input = judged (such (is_between least most)) (plain u32_at) input

-- an identifier, or any other number of four bytes; which ones name something isn't judged
unfoldable pub id_at : Reading ℕ
id_at input = plain u32_at input

-- a coordinate, a distance, a width or a step, under a rule
unfoldable pub distance_at : (ℤ → Bool) → Reading ℤ
distance_at passes input = judged (such passes) (plain i32_at) input

-- a coordinate
abbrev pub coordinate_at : Reading ℤ
coordinate_at input = distance_at is_coordinate input

-- a number that may not be below another one, and is a coordinate
abbrev pub is_from : ℤ → ℤ → Bool
is_from (pos least) (pos n) = nat_le least n && is_coordinate (pos n)
is_from (pos least) (negsuc n) = false
is_from (negsuc least) (pos n) = is_coordinate (pos n)
is_from (negsuc least) (negsuc n) = nat_le n least && is_coordinate (negsuc n)

-- ---- sets

-- a flag: 0 or 1
abbrev pub flag_of : ℕ → Option Bool
flag_of n = if n == 0 then Some false else if n == 1 then Some true else None

-- a flag of one byte
unfoldable pub flag_at : Reading Bool
flag_at input = judged flag_of (plain u8_at) input

-- the value of a code among those of a set
abbrev pub coded : {A : Type 0} → (A → ℕ) → List A → ℕ → Option A
coded code_of every code = find (λ value. code_of value == code) every

-- a value of a set, by its code of one byte
unfoldable pub coded_at : {A : Type 0} → (A → ℕ) → List A → Reading A
coded_at code_of every input = judged (coded code_of every) (plain u8_at) input

-- ---- texts

-- A text with so many bytes, from the least to the most: their number, which is judged before they are looked for, and they.
unfoldable pub text_at : ℕ → ℕ → Reading (List ℕ)
text_at least most input = (number_at least most by λ count. plain (bytes_at count)) input

-- a text without a limit of its own
abbrev pub any_text_at : Reading (List ℕ)
any_text_at input = text_at 0 4294967295 input

-- the empty text
abbrev pub no_text_at : Reading (List ℕ)
no_text_at input = text_at 0 0 input

-- a lawful name
abbrev pub is_name : List ℕ → Bool
is_name bytes = is_none (name_fault bytes)

-- a lawful name
unfoldable pub name_at : Reading (List ℕ)
name_at input = judged (such is_name) (text_at 1 4095) input

-- just this text
unfoldable pub word_at : List ℕ → Reading (List ℕ)
word_at word input = judged (such (bytes_eq word)) (text_at (length word) (length word)) input
