-- A decimal without a sign that is read in one pass.
use Rattle.std.specs.Prelude.{◌+◌, ◌^◌, ◌<◌, ◌≤◌, ◌&&◌, Bool, true, List, [], ◌∷◌, ℕ, Option, Some, None, if◌then◌else◌, not}
use Rattle.ld_words.specs.declared.short_decimal.ShortDecimal.{ShortDecimal}
use Rattle.odb_base.specs.Digits.{is_digit, number_of, with_digit}
use Rattle.ld_words.specs.Decimal.{is_decimal, is_point, digits_of, places_of}

-- so few digits that products with units fit 64 bits
pub record IsShort (d : ShortDecimal) : Type 0 where
  pub number : d.number < 10 ^ 13
  pub places : d.places ≤ 13

-- the digits of a text as one number, and how many of them stand behind its point
abbrev pub decimal : ℕ → ℕ → ShortDecimal
decimal number places = record { number = number; places = places }

-- how many digits stand behind the point with one more
abbrev pub places_with : Bool → ℕ → ℕ
places_with point places = if point then places + 1 else places

-- what is read with the bytes that are left, where a point was seen or not
abbrev pub scan : Bool → ℕ → ℕ → List ℕ → Option ShortDecimal
scan point number places [] = Some (decimal number places)
scan point number places (b ∷ bytes) =
    if is_digit b then scan point (with_digit number b) (places_with point places) bytes
    else if not point && is_point b then scan true number places bytes
    else None

-- the number and places of a text that is a decimal
abbrev pub decimal_in : List ℕ → Option ShortDecimal
decimal_in text = if is_decimal text then Some (decimal (number_of (digits_of text)) (places_of text)) else None
