-- The header of a block, as a table of fields, and the bytes of what only DEF will fill in it.
use Rattle.std.specs.Prelude.{◌++◌, List, ℕ, Option, codes}
use Rattle.odb_base.specs.Owner.{owner_code}
use Rattle.odb_base.specs.PropType.{prop_type_code}
use Rattle.odb_base.specs.declared.geometry.Rect.{Rect}
use Rattle.odb_fields.specs.Fields.{text_bytes, u8_bytes}
use Rattle.block_records.specs.declared.header.BlockVia.{BlockVia}
use Rattle.block_records.specs.declared.header.Header.{Header}
use Rattle.block_records.specs.declared.header.PropDef.{PropDef}
use Rattle.saved_fields.specs.FieldFormats.{no_text_field, word_field}
use Rattle.saved_fields.specs.Format.{Format, fields, ◌&◌}
use Rattle.saved_fields.specs.PartFormats.{absent_field, no_list_field, rect_field}

-- the definition of a property
unfoldable pub definition_bytes : PropDef → List ℕ
definition_bytes d = u8_bytes (owner_code d.owner) ++ u8_bytes (prop_type_code d.sort) ++ text_bytes d.name ++ text_bytes d.rest

-- a via of the block
unfoldable pub via_bytes : BlockVia → List ℕ
via_bytes v = text_bytes v.name ++ text_bytes v.kept

abbrev pub HeaderFields : Type 0
HeaderFields = ((((List ℕ × List ℕ) × List ℕ) × Option Rect) × List PropDef) × List BlockVia

-- the header of these fields
abbrev pub header_of : HeaderFields → Header
header_of t = record {
  design = t.0.0.0.0.0;
  divider = t.0.0.0.0.1;
  bus = t.0.0.0.1;
  die = t.0.0.1;
  definitions = t.0.1;
  vias = t.1;
}

abbrev pub header_fields : Header → HeaderFields
header_fields h = (((((h.design, h.divider), h.bus), h.die), h.definitions), h.vias)

-- the header, which is that of a new block yet: design, divider, bus characters, no die, no property definitions and no vias
unfoldable pub header_format : Format Header
header_format = fields header_of header_fields (
    no_text_field & word_field (codes "/") & word_field (codes "[]")
    & absent_field rect_field.bytes & no_list_field definition_bytes & no_list_field via_bytes
    )
