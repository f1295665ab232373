-- The formats of the parts of which records are made: placements, rectangles, lists and tables.
use Rattle.std.specs.Prelude.{Bool, ◌≡◌, List, [], ℕ, Option, None}
use Rattle.odb_base.specs.declared.codes.kind.Kind.{Kind}
use Rattle.odb_base.specs.declared.geometry.Placement.{Placement}
use Rattle.odb_base.specs.declared.geometry.Rect.{Rect}
use Rattle.odb_base.specs.declared.geometry.Shape.{Shape}
use Rattle.slot_pool.specs.Table.{Table}
use Rattle.saved_fields.specs.Bytes.{list_bytes, option_bytes, place_bytes, rect_bytes, table_bytes, term_bytes}
use Rattle.saved_fields.specs.FieldFormats.{id_field}
use Rattle.saved_fields.specs.Format.{Format, fields, list, ◌&◌}
use Rattle.saved_fields.specs.Lawful.{IsOption, IsPlacementFields, IsRectFields, IsTableOf, IsTerm}
use Rattle.saved_fields.specs.Parts.{absent_at, no_list_at, option_at, place_at, rect_at, table_at, term_at}

-- a placement: the status, the point, and the orientation
abbrev pub place_field : Format Placement
place_field = record { Has = IsPlacementFields; bytes = place_bytes; at = place_at }

-- a rectangle: its lower left corner, and its upper right one, which is neither left of it nor below it
abbrev pub rect_field : Format Rect
rect_field = record { Has = IsRectFields; bytes = rect_bytes; at = rect_at }

-- the rectangle on the layer of this identifier
abbrev pub shape_of : ℕ × Rect → Shape
shape_of t = record { layer = record { 0 = t.0 }; rect = t.1 }

-- a rectangle on a layer: the layer, and the rectangle
unfoldable pub shape_format : Format Shape
shape_format = fields shape_of (λ s. (s.layer.0, s.rect)) (id_field & rect_field)

-- rectangles on layers
abbrev pub shapes_field : Format (List Shape)
shapes_field = list 1000000 shape_format

-- identifiers
abbrev pub ids_field : Format (List ℕ)
ids_field = list 4294967295 id_field

-- identifiers, of which there are none yet
abbrev pub no_ids_field : Format (List ℕ)
no_ids_field = list 0 id_field

-- a terminal of a net: its kind, and its identifier
abbrev pub term_field : Format ℕ
term_field = record { Has = IsTerm; bytes = term_bytes; at = term_at }

-- a list that has no items yet, with the bytes that an item will have
abbrev pub no_list_field : {A : Type 0} → (A → List ℕ) → Format (List A)
no_list_field each = record { Has = λ xs. xs ≡ []; bytes = list_bytes each; at = no_list_at }

-- what may be absent: a flag, and the value where it is there
abbrev pub optional : {A : Type 0} → Format A → Format (Option A)
optional each = record {
  Has = λ o. Unit {0} × IsOption each.Has o;
  bytes = option_bytes each.bytes;
  at = option_at each.at;
}

-- what isn't there yet, with the bytes that it will have
abbrev pub absent_field : {A : Type 0} → (A → List ℕ) → Format (Option A)
absent_field each = record { Has = λ o. o ≡ None; bytes = option_bytes each; at = absent_at }

-- the table of a kind: its slots, each empty or with a record, and its free identifiers, top first
abbrev pub table_field : {A : Type 0} → Bool → Kind → ℕ → Format A → Format (Table A)
table_field built k cap each = record {
  Has = IsTableOf built cap each.Has;
  bytes = table_bytes each.bytes;
  at = table_at built k cap each.at;
}
