-- Each record's reading and its bytes are each the way back of the other: it is read back, and has no second spelling.
use Rattle.std.proofs.Common.{pos, codes, refl, ℕ}
use Rattle.saved_fields.specs.Fields.{is_from}
use Rattle.saved_reader.specs.Grouping.{group_format, group_of, prop_format, prop_of, region_fields, region_format, region_of}
use Rattle.saved_reader.specs.Header.{definition_bytes, header_fields, header_format, header_of, via_bytes}
use Rattle.saved_reader.specs.Library.{extent_field, library_format, master_fields, master_format, master_of, mterm_format, mterm_of}
use Rattle.saved_reader.specs.Objects.{block_direction_field, bterm_fields, bterm_format, bterm_of, inst_fields, inst_format, inst_of, iterm_format, iterm_of, net_fields, net_format, net_of}
use Rattle.saved_fields.specs.PartFormats.{rect_field}
use Rattle.saved_reader.specs.Physical.{blockage_format, blockage_of, pin_format, pin_of, row_fields, row_format, row_of, sites_field, track_format, track_of, wire_format, wire_of}
use Rattle.saved_reader.specs.Saved.{block_format, block_of, block_parts, built_format, kind_table, others_format}
use Rattle.saved_reader.specs.Technology.{is_no_orient, layer_fields, layer_format, layer_of, site_format, site_of, tech_format, technology_of, via_format, via_name_field, via_of}
use Rattle.odb_base.specs.Direction.{is_bterm_direction}
use Rattle.odb_base.specs.declared.codes.kind.Kind.{Kind}
use Rattle.odb_base.specs.declared.codes.kind.Kind.TheVariants as kind
use Rattle.saved_fields.specs.Format.{Format}
use Rattle.block_store.specs.View.{is_built}
use Rattle.saved_fields.proofs.Formats.{IsFormat, absent_is, any_text_is, coordinate_is, direction_is, distance_is, fields_are, filled_list_is, flag_is, id_is, ids_are, layer_direction_is, layer_type_is, list_is, name_is, no_ids_are, no_list_is, no_text_is, number_is, orient_is, passing_is, place_is, rect_is, region_type_is, shapes_are, site_class_is, small_is, table_is, term_is, track_axis_is, usage_is, wire_status_is, word_is, ◌and◌}
use Rattle.saved_fields.proofs.SitesCodec.{sites_codec}

-- ---- objects

inst_is : IsFormat inst_format
unfolding inst_format
inst_is = fields_are inst_of inst_fields (λ e. refl) (λ t. refl) (name_is and id_is and place_is and number_is 0 0 and ids_are and no_ids_are and no_text_is)

iterm_is : IsFormat iterm_format
unfolding iterm_format
iterm_is = fields_are iterm_of (λ r. ((r.inst, r.index), r.net)) (λ r. refl) (λ t. refl) (id_is and id_is and id_is)

net_is : IsFormat net_format
unfolding net_format
net_is =
    fields_are net_of net_fields (λ e. refl) (λ t. refl)
    (name_is and usage_is and flag_is and list_is 4294967295 term_is and no_ids_are and no_ids_are and no_text_is and no_text_is)

block_direction_is : IsFormat block_direction_field
unfolding block_direction_field
block_direction_is = passing_is is_bterm_direction direction_is

bterm_is : IsFormat bterm_format
unfolding bterm_format
bterm_is = fields_are bterm_of bterm_fields (λ e. refl) (λ t. refl) (name_is and id_is and block_direction_is and usage_is and no_ids_are and no_text_is)

pin_is : IsFormat pin_format
unfolding pin_format
pin_is = fields_are pin_of (λ r. (((r.bterm, r.place), r.boxes), r.kept)) (λ r. refl) (λ t. refl) (id_is and place_is and shapes_are and no_text_is)

sites_are : IsFormat sites_field
sites_are = record { codec = sites_codec }

row_is : IsFormat row_format
unfolding row_format
row_is = fields_are row_of row_fields (λ e. refl) (λ t. refl) (name_is and id_is and coordinate_is and coordinate_is and orient_is and sites_are and no_ids_are)

track_is : IsFormat track_format
unfolding track_format
track_is =
    fields_are track_of (λ r. ((((r.axis, r.start), r.count), r.step), r.layers)) (λ r. refl) (λ t. refl)
    (track_axis_is and coordinate_is and number_is 1 1000000 and distance_is (is_from (pos 1)) and list_is 1000000 id_is)

wire_is : IsFormat wire_format
unfolding wire_format
wire_is = fields_are wire_of (λ r. (((r.net, r.status), r.special), r.code)) (λ r. refl) (λ t. refl) (id_is and wire_status_is and flag_is and no_text_is)

blockage_is : IsFormat blockage_format
unfolding blockage_format
blockage_is = fields_are blockage_of (λ r. ((r.layer, r.rects), r.kept)) (λ r. refl) (λ t. refl) (id_is and filled_list_is 1000000 rect_is and no_text_is)

region_is : IsFormat region_format
unfolding region_format
region_is =
    fields_are region_of region_fields (λ e. refl) (λ t. refl)
    (name_is and region_type_is and filled_list_is 1000000 rect_is and no_ids_are and no_ids_are and no_text_is)

group_is : IsFormat group_format
unfolding group_format
group_is =
    fields_are group_of (λ e. ((((e.fields.name, e.fields.region), e.members), e.props), e.fields.kept)) (λ e. refl) (λ t. refl)
    (name_is and id_is and ids_are and no_ids_are and no_text_is)

prop_is : IsFormat prop_format
unfolding prop_format
prop_is = fields_are prop_of (λ r. ((r.definition, r.object), r.value)) (λ r. refl) (λ t. refl) (id_is and id_is and no_text_is)

-- ---- the technology and the library

layer_is : IsFormat layer_format
unfolding layer_format
layer_is =
    fields_are layer_of layer_fields (λ l. refl) (λ t. refl)
    (name_is and layer_type_is and layer_direction_is and coordinate_is and coordinate_is and coordinate_is and coordinate_is)

via_name_is : IsFormat via_name_field
unfolding via_name_field
via_name_is = passing_is is_no_orient name_is

via_is : IsFormat via_format
unfolding via_format
via_is = fields_are via_of (λ v. ((v.name, v.default), v.shapes)) (λ v. refl) (λ t. refl) (via_name_is and flag_is and shapes_are)

site_is : IsFormat site_format
unfolding site_format
site_is =
    fields_are site_of (λ s. ((((s.name, s.class), s.symmetry.0), s.width), s.height)) (λ s. refl) (λ t. refl)
    (name_is and site_class_is and small_is 7 and coordinate_is and coordinate_is)

pub tech_is : IsFormat tech_format
unfolding tech_format
tech_is =
    fields_are technology_of (λ t. (((t.units, t.layers), t.vias), t.sites)) (λ t. refl) (λ t. refl)
    (number_is 0 100000 and list_is 1000000 layer_is and list_is 1000000 via_is and list_is 1000000 site_is)

mterm_is : IsFormat mterm_format
unfolding mterm_format
mterm_is = fields_are mterm_of (λ t. (((t.name, t.direction), t.usage), t.shapes)) (λ t. refl) (λ t. refl) (name_is and direction_is and usage_is and shapes_are)

extent_is : IsFormat extent_field
unfolding extent_field
extent_is = coordinate_is and coordinate_is and coordinate_is and coordinate_is

master_is : IsFormat master_format
unfolding master_format
master_is =
    fields_are master_of master_fields (λ m. refl) (λ t. refl)
    (name_is and any_text_is and extent_is and small_is 7 and id_is and any_text_is and list_is 65535 mterm_is and shapes_are)

pub library_is : IsFormat library_format
unfolding library_format
library_is = list_is 1000000 master_is

-- ---- the block

header_is : IsFormat header_format
unfolding header_format
header_is =
    fields_are header_of header_fields (λ h. refl) (λ t. refl)
    (no_text_is and word_is (codes "/") and word_is (codes "[]") and absent_is rect_field.bytes and no_list_is definition_bytes and no_list_is via_bytes)

kind_is : {A : Type 0} {f : Format A} (k : Kind) (cap : ℕ) → IsFormat f → IsFormat (kind_table k cap f)
kind_is k cap is = table_is (is_built k) k cap is

built_is : (cap : ℕ) → IsFormat (built_format cap)
unfolding built_format
built_is cap = kind_is kind.Inst cap inst_is and kind_is kind.ITerm cap iterm_is and kind_is kind.Net cap net_is and kind_is kind.BTerm cap bterm_is

others_are : (cap : ℕ) → IsFormat (others_format cap)
unfolding others_format
others_are cap =
    kind_is kind.Pin cap pin_is and kind_is kind.Row cap row_is and kind_is kind.Track cap track_is and kind_is kind.Wire cap wire_is
    and kind_is kind.Blockage cap blockage_is and kind_is kind.Region cap region_is and kind_is kind.Group cap group_is and kind_is kind.Prop cap prop_is

pub block_is : (cap : ℕ) → IsFormat (block_format cap)
unfolding block_format
block_is cap = fields_are block_of block_parts (λ b. refl) (λ t. refl) (header_is and built_is cap and others_are cap)
