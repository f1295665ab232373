-- Finite maps from names to identifiers.
use Rattle.std.specs.Prelude.{◌≡◌, List, ℕ, Some}
use Rattle.std.specs.FinMap.{FinMap, get}
use Rattle.std.specs.Ordering.{nat_cmp}
use Rattle.std.specs.Cmp.Lexicographic.{slice_cmp}

-- a finite map from names, each a list of bytes, to identifiers
abbrev pub Names : Type 0
Names = FinMap (slice_cmp nat_cmp) ℕ

-- the map has the identifier under some name
abbrev pub HasId : Names → ℕ → Type 0
HasId names id = (name : List ℕ) × (get names name ≡ Some id)
