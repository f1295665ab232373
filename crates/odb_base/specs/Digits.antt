-- Digits, and the numbers that they make.
use Rattle.std.specs.Prelude.{◌==◌, ◌&&◌, ◌*◌, ◌+◌, ◌-◌, Bool, List, ℕ, Option, Some, None, if◌then◌else◌, fold, nat_le, slice_index}
use Rattle.std.specs.List.{list_all}

-- a minus sign in front
abbrev pub is_negative : List ℕ → Bool
is_negative word = slice_index word 0 == 45

-- a digit
abbrev pub is_digit : ℕ → Bool
is_digit b = nat_le 48 b && nat_le b 57

-- a number with one more digit
abbrev pub with_digit : ℕ → ℕ → ℕ
with_digit number digit = number * 10 + (digit - 48)

-- digits as one whole number
abbrev pub number_of : List ℕ → ℕ
number_of digits = fold with_digit 0 digits

-- the number with these digits behind its own, where they are digits
abbrev pub with_digits : ℕ → List ℕ → Option ℕ
with_digits number digits = if list_all is_digit digits then Some (fold with_digit number digits) else None
