-- Directions of terminals: their codes and words.
use Rattle.std.specs.Prelude.{Bool, true, false, List, [], ◌∷◌, ℕ, codes}
use Rattle.odb_base.specs.declared.codes.direction.Direction.{Direction}
use Rattle.odb_base.specs.declared.codes.direction.Direction.TheVariants as direction

-- the directions of terminals, in the order of the codes
abbrev pub directions : List Direction
directions = direction.None ∷ direction.Input ∷ direction.Output ∷ direction.Tristate ∷ direction.Inout ∷ direction.Feedthru ∷ []

-- the code
abbrev pub direction_code : Direction → ℕ
direction_code direction.None = 0
direction_code direction.Input = 1
direction_code direction.Output = 2
direction_code direction.Tristate = 3
direction_code direction.Inout = 4
direction_code direction.Feedthru = 5

-- the word
unfoldable pub direction_word : Direction → List ℕ
direction_word direction.None = codes "-"
direction_word direction.Input = codes "INPUT"
direction_word direction.Output = codes "OUTPUT"
direction_word direction.Tristate = codes "TRISTATE"
direction_word direction.Inout = codes "INOUT"
direction_word direction.Feedthru = codes "FEEDTHRU"

-- a terminal of the block may have the direction
abbrev pub is_bterm_direction : Direction → Bool
is_bterm_direction direction.Tristate = false
is_bterm_direction other = true
