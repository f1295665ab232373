-- The records of instances, nets and terminals, one table of fields for each kind. A field that names another object is its
-- identifier, and 0 where there is none.
use Rattle.std.specs.Prelude.{◌==◌, Bool, List, ℕ, not}
use Rattle.odb_base.specs.Direction.{is_bterm_direction}
use Rattle.odb_base.specs.Direction.{direction_code}
use Rattle.odb_base.specs.declared.codes.direction.Direction.{Direction}
use Rattle.odb_base.specs.declared.codes.usage.Usage.{Usage}
use Rattle.odb_base.specs.declared.geometry.Placement.{Placement}
use Rattle.block_records.specs.declared.iterm.ITermRec.{ITermRec}
use Rattle.block_store.specs.declared.entry.BTermEntry.{BTermEntry}
use Rattle.block_store.specs.declared.entry.InstEntry.{InstEntry}
use Rattle.block_store.specs.declared.entry.NetEntry.{NetEntry}
use Rattle.saved_fields.specs.FieldFormats.{direction_field, flag_field, id_field, name_field, no_text_field, number_field, usage_field}
use Rattle.saved_fields.specs.Format.{Format, fields, list, passing, ◌&◌}
use Rattle.saved_fields.specs.PartFormats.{ids_field, no_ids_field, place_field, term_field}

-- ---- instances

abbrev pub InstFields : Type 0
InstFields = (((((List ℕ × ℕ) × Placement) × ℕ) × List ℕ) × List ℕ) × List ℕ

-- the instance of these fields
abbrev pub inst_of : InstFields → InstEntry
inst_of t = record {
  fields = record {
    name = t.0.0.0.0.0.0;
    master = t.0.0.0.0.0.1;
    place = t.0.0.0.0.1;
    group = t.0.0.0.1;
    terminals = t.0.0.1;
    kept = t.1;
  };
  props = t.0.1;
}

abbrev pub inst_fields : InstEntry → InstFields
inst_fields e = ((((((e.fields.name, e.fields.master), e.fields.place), e.fields.group), e.fields.terminals), e.props), e.fields.kept)

-- an instance, which has no group, no properties and no kept words yet; its terminals stand in the order of the master's
unfoldable pub inst_format : Format InstEntry
inst_format = fields inst_of inst_fields (
    name_field & id_field & place_field & number_field 0 0 & ids_field & no_ids_field & no_text_field
    )

-- ---- terminals of instances

-- the instance terminal of these fields
abbrev pub iterm_of : (ℕ × ℕ) × ℕ → ITermRec
iterm_of t = record { inst = t.0.0; index = t.0.1; net = t.1 }

-- a terminal of an instance
unfoldable pub iterm_format : Format ITermRec
iterm_format = fields iterm_of (λ r. ((r.inst, r.index), r.net)) (id_field & id_field & id_field)

-- ---- nets

abbrev pub NetFields : Type 0
NetFields = ((((((List ℕ × Usage) × Bool) × List ℕ) × List ℕ) × List ℕ) × List ℕ) × List ℕ

-- the net of these fields
abbrev pub net_of : NetFields → NetEntry
net_of t = record {
  fields = record {
    name = t.0.0.0.0.0.0.0;
    usage = t.0.0.0.0.0.0.1;
    special = t.0.0.0.0.0.1;
    kept = t.0.1;
    special_kept = t.1;
  };
  terms = t.0.0.0.0.1;
  wires = t.0.0.0.1;
  props = t.0.0.1;
}

abbrev pub net_fields : NetEntry → NetFields
net_fields e = (((((((e.fields.name, e.fields.usage), e.fields.special), e.terms), e.wires), e.props), e.fields.kept), e.fields.special_kept)

-- a net, which has no wires, no properties and no kept words yet
unfoldable pub net_format : Format NetEntry
net_format = fields net_of net_fields (
    name_field & usage_field & flag_field & list 4294967295 term_field & no_ids_field & no_ids_field & no_text_field & no_text_field
    )

-- ---- terminals of the block

-- the direction of a block terminal
unfoldable pub block_direction_field : Format Direction
block_direction_field = passing is_bterm_direction direction_field

abbrev pub BTermFields : Type 0
BTermFields = ((((List ℕ × ℕ) × Direction) × Usage) × List ℕ) × List ℕ

-- the block terminal of these fields
abbrev pub bterm_of : BTermFields → BTermEntry
bterm_of t = record {
  fields = record {
    name = t.0.0.0.0.0;
    net = t.0.0.0.0.1;
    direction = t.0.0.0.1;
    usage = t.0.0.1;
    kept = t.1;
  };
  pins = t.0.1;
}

abbrev pub bterm_fields : BTermEntry → BTermFields
bterm_fields e = (((((e.fields.name, e.fields.net), e.fields.direction), e.fields.usage), e.pins), e.fields.kept)

-- a terminal of the block, which has no pins and no kept words yet
unfoldable pub bterm_format : Format BTermEntry
bterm_format = fields bterm_of bterm_fields (
    name_field & id_field & block_direction_field & usage_field & no_ids_field & no_text_field
    )
