-- Which words are decimals, and what they are in database units.
use Rattle.std.specs.Prelude.{◌+◌, ◌-◌, ◌*◌, ◌/◌, ◌^◌, ◌==◌, ◌&&◌, ◌||◌, ◌++◌, ℤ, pos, neg_ℤ, Bool, true, List, ℕ, Option, Some, None, Result, Ok, Err, if◌then◌else◌, drop, fold, length, nat_le, slice_index}
use Rattle.std.specs.List.{after_first, before_first, list_all}
use Rattle.odb_base.specs.Digits.{is_digit, is_negative, number_of, with_digits}
use Rattle.ld_words.specs.declared.decimal.NumberFault.{NumberFault}
use Rattle.ld_words.specs.declared.decimal.NumberFault.TheVariants as fault

-- a minus or plus sign in front
abbrev pub has_sign : List ℕ → Bool
has_sign word = is_negative word || slice_index word 0 == 43

-- the word without its sign
abbrev pub unsigned : List ℕ → List ℕ
unsigned word = if has_sign word then drop 1 word else word

abbrev pub is_point : ℕ → Bool
is_point b = b == 46

-- what stands before the first point and after it
abbrev pub digits_of : List ℕ → List ℕ
digits_of text = before_first is_point text ++ after_first is_point text

-- how many digits stand after the point
abbrev pub places_of : List ℕ → ℕ
places_of text = length (after_first is_point text)

-- of a first byte and a length: there is no byte, or a point alone
abbrev pub lacks_digits : Option ℕ → ℕ → Bool
lacks_digits None size = true
lacks_digits (Some first) size = size == 1 && is_point first

-- 1 to 30 digits, with at most one point among or around them
abbrev pub is_decimal : List ℕ → Bool
is_decimal text =
    let digits = digits_of text in
    nat_le 1 (length digits) && nat_le (length digits) 30 && list_all is_digit digits

-- the whole number nearest to a quotient, and the greater of two that are equally near
abbrev pub rounded : ℕ → ℕ → ℕ
rounded n d = (2 * n + d) / (2 * d)

-- a number with its sign
abbrev pub signed : Bool → ℕ → ℤ
signed negative n = if negative then neg_ℤ (pos n) else pos n

-- a number with its sign, where it is a coordinate
abbrev pub coordinate : Bool → ℕ → Result ℤ NumberFault
coordinate negative n = if nat_le n 2000000000 then Ok (signed negative n) else Err fault.OutOfRange

-- the magnitude of a decimal in units: its digits as one whole number times the units, over a power of ten,
-- rounded to the nearest whole number
abbrev pub magnitude_of : ℕ → List ℕ → ℕ
magnitude_of per_micron text = rounded (number_of (digits_of text) * per_micron) (10 ^ places_of text)

-- a word in units, half a unit going away from zero
unfoldable pub units_of : ℕ → List ℕ → Result ℤ NumberFault
units_of per_micron word =
    let text = unsigned word in
    if is_decimal text then coordinate (is_negative word) (magnitude_of per_micron text)
    else Err fault.NotNumber

-- the magnitude of a decimal in units, where it is one of a coordinate
abbrev pub magnitude_in : ℕ → List ℕ → Result ℕ NumberFault
magnitude_in per_micron text =
    if is_decimal text
    then (if nat_le (magnitude_of per_micron text) 2000000000 then Ok (magnitude_of per_micron text) else Err fault.OutOfRange)
    else Err fault.NotNumber

-- the number that 1 to 30 digits are
abbrev pub whole_of : List ℕ → Option ℕ
whole_of digits =
    if nat_le 1 (length digits) && nat_le (length digits) 30 then with_digits 0 digits else None
