-- Characters in quotes.
use Rattle.std.specs.Prelude.{◌==◌, ◌&&◌, Bool, List, [], ◌∷◌, ℕ, Option, Some, None, if◌then◌else◌, nat_le, not}

-- a character that may part names, or stand around the index of a bus's bit: from `!` to `~`, and no quote
abbrev pub is_mark : ℕ → Bool
is_mark b = nat_le 33 b && nat_le b 126 && not (b == 34)

-- one character between quotes
unfoldable pub divider_in : List ℕ → Option (List ℕ)
divider_in (q ∷ c ∷ r ∷ []) = if q == 34 && r == 34 && is_mark c then Some (c ∷ []) else None
divider_in other = None

-- two characters between quotes
unfoldable pub bus_in : List ℕ → Option (List ℕ)
bus_in (q ∷ c ∷ d ∷ r ∷ []) = if q == 34 && r == 34 && is_mark c && is_mark d then Some (c ∷ d ∷ []) else None
bus_in other = None
