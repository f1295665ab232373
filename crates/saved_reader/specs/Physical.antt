-- The records of what stands on the die: pins, rows, tracks, wires and blockages, one table of fields for each kind.
use Rattle.std.specs.Prelude.{Bool, List, ℕ, ℤ, pos}
use Rattle.odb_base.specs.declared.codes.orient.Orient.{Orient}
use Rattle.odb_base.specs.declared.codes.track_axis.TrackAxis.{TrackAxis}
use Rattle.odb_base.specs.declared.codes.wire_status.WireStatus.{WireStatus}
use Rattle.odb_base.specs.declared.geometry.Placement.{Placement}
use Rattle.odb_base.specs.declared.geometry.Rect.{Rect}
use Rattle.odb_base.specs.declared.geometry.Shape.{Shape}
use Rattle.block_records.specs.declared.blockage.BlockageRec.{BlockageRec}
use Rattle.block_records.specs.declared.pin.PinRec.{PinRec}
use Rattle.block_records.specs.declared.track.TrackRec.{TrackRec}
use Rattle.block_records.specs.declared.wire.WireRec.{WireRec}
use Rattle.block_store.specs.declared.entry.RowEntry.{RowEntry}
use Rattle.saved_fields.specs.FieldFormats.{coordinate_field, distance_field, flag_field, id_field, name_field, no_text_field, number_field, orient_field, track_axis_field, wire_status_field}
use Rattle.saved_fields.specs.Fields.{is_from}
use Rattle.saved_fields.specs.Format.{Format, fields, filled_list, list, ◌&◌}
use Rattle.saved_fields.specs.Lawful.{IsSites}
use Rattle.saved_fields.specs.PartFormats.{no_ids_field, place_field, rect_field, shapes_field}
use Rattle.saved_fields.specs.Sites.{Sites, sites_at, sites_bytes, sites_of}

-- ---- pins

-- the pin of these fields
abbrev pub pin_of : ((ℕ × Placement) × List Shape) × List ℕ → PinRec
pin_of t = record { bterm = t.0.0.0; place = t.0.0.1; boxes = t.0.1; kept = t.1 }

-- a pin, which has no kept words yet
unfoldable pub pin_format : Format PinRec
pin_format = fields pin_of (λ r. (((r.bterm, r.place), r.boxes), r.kept)) (
    id_field & place_field & shapes_field & no_text_field
    )

-- ---- rows

-- the sites of a row: the form, how many stand along x and along y, and the steps along both
abbrev pub sites_field : Format Sites
sites_field = record { Has = IsSites; bytes = sites_bytes; at = sites_at }

abbrev pub RowFields : Type 0
RowFields = (((((List ℕ × ℕ) × ℤ) × ℤ) × Orient) × Sites) × List ℕ

-- the row of these fields
abbrev pub row_of : RowFields → RowEntry
row_of t =
    let sites = t.0.1 in
    record {
      fields = record {
        name = t.0.0.0.0.0.0;
        site = t.0.0.0.0.0.1;
        x = t.0.0.0.0.1;
        y = t.0.0.0.1;
        orientation = t.0.0.1;
        form = sites.0.0.0.0;
        nx = sites.0.0.0.1;
        ny = sites.0.0.1;
        sx = sites.0.1;
        sy = sites.1;
      };
      props = t.1;
    }

abbrev pub row_fields : RowEntry → RowFields
row_fields e = ((((((e.fields.name, e.fields.site), e.fields.x), e.fields.y), e.fields.orientation), sites_of e.fields), e.props)

-- a row, which has no properties yet
unfoldable pub row_format : Format RowEntry
row_format = fields row_of row_fields (
    name_field & id_field & coordinate_field & coordinate_field & orient_field & sites_field & no_ids_field
    )

-- ---- tracks

-- the tracks of these fields
abbrev pub track_of : (((TrackAxis × ℤ) × ℕ) × ℤ) × List ℕ → TrackRec
track_of t = record { axis = t.0.0.0.0; start = t.0.0.0.1; count = t.0.0.1; step = t.0.1; layers = t.1 }

-- tracks, at a step of at least 1
unfoldable pub track_format : Format TrackRec
track_format = fields track_of (λ r. ((((r.axis, r.start), r.count), r.step), r.layers)) (
    track_axis_field & coordinate_field & number_field 1 1000000 & distance_field (is_from (pos 1)) & list 1000000 id_field
    )

-- ---- wires

-- the wire of these fields
abbrev pub wire_of : ((ℕ × WireStatus) × Bool) × List ℕ → WireRec
wire_of t = record { net = t.0.0.0; status = t.0.0.1; special = t.0.1; code = t.1 }

-- a wire, which has no code yet; a code is a text
unfoldable pub wire_format : Format WireRec
wire_format = fields wire_of (λ r. (((r.net, r.status), r.special), r.code)) (
    id_field & wire_status_field & flag_field & no_text_field
    )

-- ---- blockages

-- the blockage of these fields
abbrev pub blockage_of : (ℕ × List Rect) × List ℕ → BlockageRec
blockage_of t = record { layer = t.0.0; rects = t.0.1; kept = t.1 }

-- a blockage, which has no kept words yet
unfoldable pub blockage_format : Format BlockageRec
blockage_format = fields blockage_of (λ r. ((r.layer, r.rects), r.kept)) (
    id_field & filled_list 1000000 rect_field & no_text_field
    )
