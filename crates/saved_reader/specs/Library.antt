-- A library, one table of fields for each record.
use Rattle.std.specs.Prelude.{List, ℕ, ℤ}
use Rattle.odb_base.specs.declared.codes.direction.Direction.{Direction}
use Rattle.odb_base.specs.declared.codes.usage.Usage.{Usage}
use Rattle.odb_base.specs.declared.geometry.Shape.{Shape}
use Rattle.library.specs.declared.master.Master.{Master}
use Rattle.library.specs.declared.mterm.MTerm.{MTerm}
use Rattle.saved_fields.specs.FieldFormats.{any_text_field, coordinate_field, direction_field, id_field, name_field, small_field, usage_field}
use Rattle.saved_fields.specs.Format.{Format, fields, list, ◌&◌}
use Rattle.saved_fields.specs.PartFormats.{shapes_field}

-- the terminal of a master of these fields
abbrev pub mterm_of : ((List ℕ × Direction) × Usage) × List Shape → MTerm
mterm_of t = record { name = t.0.0.0; direction = t.0.0.1; usage = t.0.1; shapes = t.1 }

-- a terminal of a master
unfoldable pub mterm_format : Format MTerm
mterm_format = fields mterm_of (λ t. (((t.name, t.direction), t.usage), t.shapes)) (
    name_field & direction_field & usage_field & shapes_field
    )

-- the origin of a master, and its size
abbrev pub Extent : Type 0
Extent = ((ℤ × ℤ) × ℤ) × ℤ

abbrev pub extent_of : Master → Extent
extent_of m = (((m.origin_x, m.origin_y), m.width), m.height)

unfoldable pub extent_field : Format Extent
extent_field = coordinate_field & coordinate_field & coordinate_field & coordinate_field

abbrev pub MasterFields : Type 0
MasterFields = ((((((List ℕ × List ℕ) × Extent) × ℕ) × ℕ) × List ℕ) × List MTerm) × List Shape

-- the master of these fields
abbrev pub master_of : MasterFields → Master
master_of t =
    let extent = t.0.0.0.0.0.1 in
    record {
      name = t.0.0.0.0.0.0.0;
      class = t.0.0.0.0.0.0.1;
      origin_x = extent.0.0.0;
      origin_y = extent.0.0.1;
      width = extent.0.1;
      height = extent.1;
      symmetry = t.0.0.0.0.1;
      site = t.0.0.0.1;
      foreign = t.0.0.1;
      terminals = t.0.1;
      obstructions = t.1;
    }

abbrev pub master_fields : Master → MasterFields
master_fields m = (((((((m.name, m.class), extent_of m), m.symmetry), m.site), m.foreign), m.terminals), m.obstructions)

-- a master
unfoldable pub master_format : Format Master
master_format = fields master_of master_fields (
    name_field & any_text_field & extent_field & small_field 7 & id_field & any_text_field & list 65535 mterm_format & shapes_field
    )

-- the masters, in the order of their identifiers
unfoldable pub library_format : Format (List Master)
library_format = list 1000000 master_format
