-- Words that are numbers.
use Rattle.std.specs.Prelude.{◌==◌, ◌&&◌, ◌||◌, Bool, List, ℕ, ℤ, pos, Option, Some, None, if◌then◌else◌, drop, length, not}
use Rattle.std.specs.Int.Signed.{le_z}
use Rattle.std.specs.List.{list_all}
use Rattle.odb_base.specs.Digits.{is_digit, is_negative}
use Rattle.ld_forms.specs.Names.{whole_number_in}
use Rattle.wires.specs.PathWords.{number_of}

-- a number from 1 to 1,000,000
abbrev pub count_of : Option ℤ → Option ℕ
count_of (Some (pos n)) = if le_z (pos 1) (pos n) && le_z (pos n) (pos 1000000) then Some n else None
count_of other = None

-- how often something is repeated
unfoldable pub count_in : List ℕ → Option ℕ
count_in word = count_of (number_of word)

-- a number of at least 1
abbrev pub step_of : Option ℤ → Option ℤ
step_of (Some z) = if le_z (pos 1) z then Some z else None
step_of None = None

-- the distance of tracks
unfoldable pub step_in : List ℕ → Option ℤ
step_in word = step_of (number_of word)

-- the word without a minus sign in front
abbrev pub unsigned_of : List ℕ → List ℕ
unsigned_of word = if is_negative word then drop 1 word else word

-- one digit or more
abbrev pub are_digits : List ℕ → Bool
are_digits digits = not (length digits == 0) && list_all is_digit digits

-- a number, of whatever size
unfoldable pub is_number : List ℕ → Bool
is_number word = are_digits (unsigned_of word)

-- a number that isn't below 0
abbrev pub if_natural : Bool → Option ℕ → Option ℕ
if_natural negative (Some n) = if not negative || n == 0 then Some n else None
if_natural negative None = None

-- how many elements a section has by its header, where some section can have so many
unfoldable pub stated_in : List ℕ → Option ℕ
stated_in word = if_natural (is_negative word) (whole_number_in (unsigned_of word))
