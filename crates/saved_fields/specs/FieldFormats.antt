-- The formats of single fields.
use Rattle.std.specs.Prelude.{Bool, List, ℕ, ℤ}
use Rattle.odb_base.specs.Geometry.{is_coordinate}
use Rattle.odb_base.specs.Direction.{direction_code, directions}
use Rattle.odb_base.specs.LayerDirection.{layer_direction_code, layer_directions}
use Rattle.odb_base.specs.LayerType.{layer_type_code, layer_types}
use Rattle.odb_base.specs.Orient.{orient_code, orients}
use Rattle.odb_base.specs.RegionType.{region_type_code, region_types}
use Rattle.odb_base.specs.SiteClass.{site_class_code, site_classes}
use Rattle.odb_base.specs.TrackAxis.{track_axes, track_axis_code}
use Rattle.odb_base.specs.Usage.{usage_code, usages}
use Rattle.odb_base.specs.WireStatus.{wire_status_code, wire_statuses}
use Rattle.odb_base.specs.declared.codes.direction.Direction.{Direction}
use Rattle.odb_base.specs.declared.codes.layer_direction.LayerDirection.{LayerDirection}
use Rattle.odb_base.specs.declared.codes.layer_type.LayerType.{LayerType}
use Rattle.odb_base.specs.declared.codes.orient.Orient.{Orient}
use Rattle.odb_base.specs.declared.codes.region_type.RegionType.{RegionType}
use Rattle.odb_base.specs.declared.codes.site_class.SiteClass.{SiteClass}
use Rattle.odb_base.specs.declared.codes.track_axis.TrackAxis.{TrackAxis}
use Rattle.odb_base.specs.declared.codes.usage.Usage.{Usage}
use Rattle.odb_base.specs.declared.codes.wire_status.WireStatus.{WireStatus}
use Rattle.odb_fields.specs.Fields.{i32_bytes, text_bytes, u8_bytes, u32_bytes}
use Rattle.saved_fields.specs.Bytes.{flag_bytes}
use Rattle.saved_fields.specs.Fields.{coded_at, distance_at, flag_at, id_at, name_at, number_at, small_at, text_at, word_at}
use Rattle.saved_fields.specs.Format.{Format}
use Rattle.saved_fields.specs.Lawful.{IsDistance, IsId, IsNameText, IsNumber, IsSmall, IsText, IsWord}

-- an identifier, or any other number of four bytes
abbrev pub id_field : Format ℕ
id_field = record { Has = IsId; bytes = u32_bytes; at = id_at }

-- a number of four bytes, from the least to the most
abbrev pub number_field : ℕ → ℕ → Format ℕ
number_field least most = record { Has = IsNumber least most; bytes = u32_bytes; at = number_at least most }

-- a number of one byte, up to the most
abbrev pub small_field : ℕ → Format ℕ
small_field most = record { Has = IsSmall most; bytes = u8_bytes; at = small_at most }

-- a signed number that passes
abbrev pub distance_field : (ℤ → Bool) → Format ℤ
distance_field passes = record { Has = IsDistance passes; bytes = i32_bytes; at = distance_at passes }

-- a coordinate
abbrev pub coordinate_field : Format ℤ
coordinate_field = distance_field is_coordinate

-- a flag: 0 or 1
abbrev pub flag_field : Format Bool
flag_field = record { Has = λ b. Unit {0}; bytes = flag_bytes; at = flag_at }

-- ---- texts

-- a text of so many bytes, from the least to the most
abbrev pub text_field : ℕ → ℕ → Format (List ℕ)
text_field least most = record { Has = IsText least most; bytes = text_bytes; at = text_at least most }

-- a text without a limit of its own
abbrev pub any_text_field : Format (List ℕ)
any_text_field = text_field 0 4294967295

-- the empty text
abbrev pub no_text_field : Format (List ℕ)
no_text_field = text_field 0 0

-- a lawful name
abbrev pub name_field : Format (List ℕ)
name_field = record { Has = IsNameText; bytes = text_bytes; at = name_at }

-- just this text
abbrev pub word_field : List ℕ → Format (List ℕ)
word_field word = record { Has = IsWord word; bytes = text_bytes; at = word_at word }

-- ---- sets

-- a value of a set, by its code
abbrev pub coded_field : {A : Type 0} → (A → ℕ) → List A → Format A
coded_field code_of every = record { Has = λ x. Unit {0}; bytes = λ x. u8_bytes (code_of x); at = coded_at code_of every }

abbrev pub direction_field : Format Direction
direction_field = coded_field direction_code directions

abbrev pub layer_direction_field : Format LayerDirection
layer_direction_field = coded_field layer_direction_code layer_directions

abbrev pub layer_type_field : Format LayerType
layer_type_field = coded_field layer_type_code layer_types

abbrev pub orient_field : Format Orient
orient_field = coded_field orient_code orients

abbrev pub region_type_field : Format RegionType
region_type_field = coded_field region_type_code region_types

abbrev pub site_class_field : Format SiteClass
site_class_field = coded_field site_class_code site_classes

abbrev pub track_axis_field : Format TrackAxis
track_axis_field = coded_field track_axis_code track_axes

abbrev pub usage_field : Format Usage
usage_field = coded_field usage_code usages

abbrev pub wire_status_field : Format WireStatus
wire_status_field = coded_field wire_status_code wire_statuses
