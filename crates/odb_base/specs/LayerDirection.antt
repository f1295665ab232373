-- Directions of layers: their codes and words.
use Rattle.std.specs.Prelude.{List, [], ◌∷◌, ℕ, codes}
use Rattle.odb_base.specs.declared.codes.layer_direction.LayerDirection.{LayerDirection}
use Rattle.odb_base.specs.declared.codes.layer_direction.LayerDirection.TheVariants as layer_direction

-- the directions of layers, in the order of the codes
abbrev pub layer_directions : List LayerDirection
layer_directions = layer_direction.None ∷ layer_direction.Horizontal ∷ layer_direction.Vertical ∷ []

-- the code
abbrev pub layer_direction_code : LayerDirection → ℕ
layer_direction_code layer_direction.None = 0
layer_direction_code layer_direction.Horizontal = 1
layer_direction_code layer_direction.Vertical = 2

-- the word
unfoldable pub layer_direction_word : LayerDirection → List ℕ
layer_direction_word layer_direction.None = codes "-"
layer_direction_word layer_direction.Horizontal = codes "HORIZONTAL"
layer_direction_word layer_direction.Vertical = codes "VERTICAL"
