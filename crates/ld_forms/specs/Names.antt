-- Words that are names or whole numbers.
use Rattle.std.specs.Prelude.{◌-◌, ◌^◌, ◌&&◌, Bool, List, ℕ, Option, Some, None, if◌then◌else◌, fold, is_none, is_some, nat_le, not}
use Rattle.std.specs.List.{find, list_all}
use Rattle.std.specs.Str.{bytes_eq}
use Rattle.odb_base.specs.Digits.{is_digit, with_digit}
use Rattle.odb_base.specs.Name.{name_fault}
use Rattle.odb_base.specs.Orient.{orient_word, orients}

-- a lawful name
unfoldable pub is_name : List ℕ → Bool
is_name word = is_none (name_fault word)

-- the word of an orientation
unfoldable pub is_orientation : List ℕ → Bool
is_orientation word = is_some (find (λ orient. bytes_eq (orient_word orient) word) orients)

-- a lawful name of a via, which no orientation has
unfoldable pub is_via_name : List ℕ → Bool
is_via_name word = not (is_orientation word) && is_name word

-- a lawful number of units per micron
abbrev pub per_micron : ℕ → Option ℕ
per_micron n = if nat_le 1 n && nat_le n 100000 then Some n else None

-- the lawful number that digits make, put behind those of another number
abbrev pub per_micron_with : ℕ → List ℕ → Option ℕ
per_micron_with n digits = if list_all is_digit digits then per_micron (fold with_digit n digits) else None

-- the units per micron that a word states
unfoldable pub per_micron_in : List ℕ → Option ℕ
per_micron_in word = per_micron_with 0 word

-- a number below 2^64
abbrev pub below_word : ℕ → Option ℕ
below_word n = if nat_le n (2 ^ 64 - 1) then Some n else None

-- the number that digits make, put behind those of another number
abbrev pub whole_number_with : ℕ → List ℕ → Option ℕ
whole_number_with n digits = if list_all is_digit digits then below_word (fold with_digit n digits) else None

-- the whole number that digits make, where it is below 2^64
unfoldable pub whole_number_in : List ℕ → Option ℕ
whole_number_in digits = whole_number_with 0 digits
