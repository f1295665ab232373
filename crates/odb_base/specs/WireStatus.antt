-- Wire statuses: their codes and words.
use Rattle.std.specs.Prelude.{List, [], ◌∷◌, ℕ, codes}
use Rattle.odb_base.specs.declared.codes.wire_status.WireStatus.{WireStatus}
use Rattle.odb_base.specs.declared.codes.wire_status.WireStatus.TheVariants as wire_status

-- the wire statuses, in the order of the codes
abbrev pub wire_statuses : List WireStatus
wire_statuses = wire_status.Routed ∷ wire_status.Fixed ∷ wire_status.Cover ∷ []

-- the code
abbrev pub wire_status_code : WireStatus → ℕ
wire_status_code wire_status.Routed = 0
wire_status_code wire_status.Fixed = 1
wire_status_code wire_status.Cover = 2

-- the word
unfoldable pub wire_status_word : WireStatus → List ℕ
wire_status_word wire_status.Routed = codes "ROUTED"
wire_status_word wire_status.Fixed = codes "FIXED"
wire_status_word wire_status.Cover = codes "COVER"
