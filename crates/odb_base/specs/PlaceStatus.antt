-- Placement statuses: their codes and words.
use Rattle.std.specs.Prelude.{List, [], ◌∷◌, ℕ, codes}
use Rattle.odb_base.specs.declared.codes.place_status.PlaceStatus.{PlaceStatus}
use Rattle.odb_base.specs.declared.codes.place_status.PlaceStatus.TheVariants as place_status

-- the placement statuses, in the order of the codes
abbrev pub place_statuses : List PlaceStatus
place_statuses = place_status.Unplaced ∷ place_status.Placed ∷ place_status.Fixed ∷ place_status.Cover ∷ []

-- the code
abbrev pub place_status_code : PlaceStatus → ℕ
place_status_code place_status.Unplaced = 0
place_status_code place_status.Placed = 1
place_status_code place_status.Fixed = 2
place_status_code place_status.Cover = 3

-- the word
unfoldable pub place_status_word : PlaceStatus → List ℕ
place_status_word place_status.Unplaced = codes "UNPLACED"
place_status_word place_status.Placed = codes "PLACED"
place_status_word place_status.Fixed = codes "FIXED"
place_status_word place_status.Cover = codes "COVER"
