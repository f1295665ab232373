-- Formats whose reading and bytes are each the way back of the other: those of fields, and how they are put together.
use Rattle.std.proofs.Common.{◌≡◌, Bool, ℕ, ℤ, List, refl}
use Rattle.odb_base.specs.Geometry.{is_coordinate}
use Rattle.odb_base.specs.Direction.{direction_code, directions}
use Rattle.odb_base.specs.LayerDirection.{layer_direction_code, layer_directions}
use Rattle.odb_base.specs.LayerType.{layer_type_code, layer_types}
use Rattle.odb_base.specs.Orient.{orient_code, orients}
use Rattle.odb_base.specs.RegionType.{region_type_code, region_types}
use Rattle.odb_base.specs.SiteClass.{site_class_code, site_classes}
use Rattle.odb_base.specs.TrackAxis.{track_axes, track_axis_code}
use Rattle.odb_base.specs.Usage.{usage_code, usages}
use Rattle.odb_base.specs.WireStatus.{wire_status_code, wire_statuses}
use Rattle.odb_base.specs.declared.codes.kind.Kind.{Kind}
use Rattle.saved_fields.specs.FieldFormats.{any_text_field, coded_field, coordinate_field, direction_field, distance_field, flag_field, id_field, layer_direction_field, layer_type_field, name_field, no_text_field, number_field, orient_field, region_type_field, site_class_field, small_field, text_field, track_axis_field, usage_field, wire_status_field, word_field}
use Rattle.saved_fields.specs.Format.{Format, fields, filled_list, list, passing, ◌&◌}
use Rattle.saved_fields.specs.PartFormats.{absent_field, ids_field, no_ids_field, no_list_field, place_field, rect_field, shape_format, shape_of, shapes_field, table_field, term_field}
use Rattle.saved_fields.proofs.Codec.{IsCodec, and_codec, record_codec}
use Rattle.saved_fields.proofs.Compound.{absent_codec, place_codec, rect_codec, table_codec}
use Rattle.saved_fields.proofs.Counted.{filled_list_codec, list_codec, no_list_codec}
use Rattle.saved_fields.proofs.Sets.{directions_set, layer_directions_set, layer_types_set, orients_set, region_types_set, site_classes_set, track_axes_set, usages_set, wire_statuses_set}
use Rattle.saved_fields.proofs.Single.{IsSet, coded_codec, distance_codec, flag_codec, id_codec, name_codec, number_codec, small_codec, such_codec, text_codec, word_codec}
use Rattle.saved_fields.proofs.Terms.{term_codec}

-- the reading and the bytes are each the way back of the other
pub record IsFormat {A : Type 0} (format : Format A) : Type 0 where
  pub codec : IsCodec format.at format.bytes format.Has

-- ---- how formats are put together

infixl 10 ◌and◌
pub ◌and◌ : {A B : Type 0} {f : Format A} {g : Format B} → IsFormat f → IsFormat g → IsFormat (f & g)
first and second = record { codec = and_codec _ _ _ _ _ _ first.codec second.codec }

pub fields_are : {A B : Type 0} {f : Format A} (whole : A → B) (parts : B → A) → ((y : B) → whole (parts y) ≡ y) → ((x : A) → parts (whole x) ≡ x) → IsFormat f → IsFormat (fields whole parts f)
fields_are whole parts again apart is = record { codec = record_codec whole parts _ _ _ again apart is.codec }

pub passing_is : {A : Type 0} {f : Format A} (passes : A → Bool) → IsFormat f → IsFormat (passing passes f)
passing_is passes is = record { codec = such_codec passes _ _ _ is.codec }

pub list_is : {A : Type 0} {f : Format A} (most : ℕ) → IsFormat f → IsFormat (list most f)
list_is most is = record { codec = list_codec _ _ _ is.codec most }

pub filled_list_is : {A : Type 0} {f : Format A} (most : ℕ) → IsFormat f → IsFormat (filled_list most f)
filled_list_is most is = record { codec = filled_list_codec _ _ _ is.codec most }

pub table_is : {A : Type 0} {f : Format A} (built : Bool) (k : Kind) (cap : ℕ) → IsFormat f → IsFormat (table_field built k cap f)
table_is built k cap is = record { codec = table_codec built k cap _ _ _ is.codec }

-- ---- fields

pub id_is : IsFormat id_field
id_is = record { codec = id_codec }

pub number_is : (least most : ℕ) → IsFormat (number_field least most)
number_is least most = record { codec = number_codec least most }

pub small_is : (most : ℕ) → IsFormat (small_field most)
small_is most = record { codec = small_codec most }

pub distance_is : (passes : ℤ → Bool) → IsFormat (distance_field passes)
distance_is passes = record { codec = distance_codec passes }

pub coordinate_is : IsFormat coordinate_field
coordinate_is = distance_is is_coordinate

pub flag_is : IsFormat flag_field
flag_is = record { codec = flag_codec }

pub text_is : (least most : ℕ) → IsFormat (text_field least most)
text_is least most = record { codec = text_codec least most }

pub any_text_is : IsFormat any_text_field
any_text_is = text_is 0 4294967295

pub no_text_is : IsFormat no_text_field
no_text_is = text_is 0 0

pub name_is : IsFormat name_field
name_is = record { codec = name_codec }

pub word_is : (word : List ℕ) → IsFormat (word_field word)
word_is word = record { codec = word_codec word }

-- ---- sets

coded_is : {A : Type 0} (code_of : A → ℕ) (every : List A) → IsSet code_of every → IsFormat (coded_field code_of every)
coded_is code_of every set = record { codec = coded_codec code_of every set }

pub direction_is : IsFormat direction_field
direction_is = coded_is direction_code directions directions_set

pub layer_direction_is : IsFormat layer_direction_field
layer_direction_is = coded_is layer_direction_code layer_directions layer_directions_set

pub layer_type_is : IsFormat layer_type_field
layer_type_is = coded_is layer_type_code layer_types layer_types_set

pub orient_is : IsFormat orient_field
orient_is = coded_is orient_code orients orients_set

pub region_type_is : IsFormat region_type_field
region_type_is = coded_is region_type_code region_types region_types_set

pub site_class_is : IsFormat site_class_field
site_class_is = coded_is site_class_code site_classes site_classes_set

pub track_axis_is : IsFormat track_axis_field
track_axis_is = coded_is track_axis_code track_axes track_axes_set

pub usage_is : IsFormat usage_field
usage_is = coded_is usage_code usages usages_set

pub wire_status_is : IsFormat wire_status_field
wire_status_is = coded_is wire_status_code wire_statuses wire_statuses_set

-- ---- parts

pub place_is : IsFormat place_field
place_is = record { codec = place_codec }

pub rect_is : IsFormat rect_field
rect_is = record { codec = rect_codec }

pub shape_is : IsFormat shape_format
unfolding shape_format
shape_is = fields_are shape_of (λ s. (s.layer.0, s.rect)) (λ s. refl) (λ t. refl) (id_is and rect_is)

pub shapes_are : IsFormat shapes_field
shapes_are = list_is 1000000 shape_is

pub ids_are : IsFormat ids_field
ids_are = list_is 4294967295 id_is

pub no_ids_are : IsFormat no_ids_field
no_ids_are = list_is 0 id_is

pub term_is : IsFormat term_field
term_is = record { codec = term_codec }

pub no_list_is : {A : Type 0} (each : A → List ℕ) → IsFormat (no_list_field each)
no_list_is each = record { codec = no_list_codec each }

pub absent_is : {A : Type 0} (each : A → List ℕ) → IsFormat (absent_field each)
absent_is each = record { codec = absent_codec each }
