-- How many hold a name, and how often numbers stand in lists, both counted up to two: none, one, or more.
use Rattle.std.specs.Prelude.{◌==◌, List, ℕ, count_by, min}
use Rattle.std.specs.HashMap.{HashMap, get_by}
use Rattle.std.specs.Option.{unwrap_or}
use Rattle.std.specs.Str.{bytes_eq}
use Rattle.std.specs.Borrow.{Bor}

module _ {S : Type 0} where
  -- how many hold the name
  abbrev pub holders_in : HashMap (Bor (List ℕ)) ℕ S → List ℕ → ℕ
  holders_in counts name = unwrap_or (get_by (λ k. bytes_eq name k.now) counts) 0

-- how often the number stands in the list
abbrev pub often : ℕ → List ℕ → ℕ
often number numbers = min 2 (count_by (λ other. other == number) numbers)
