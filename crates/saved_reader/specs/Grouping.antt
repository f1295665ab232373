-- The records of what stands for other objects, one table of fields for each kind: regions, groups and properties.
use Rattle.std.specs.Prelude.{List, ℕ}
use Rattle.odb_base.specs.declared.codes.region_type.RegionType.{RegionType}
use Rattle.odb_base.specs.declared.geometry.Rect.{Rect}
use Rattle.block_records.specs.declared.prop.PropRec.{PropRec}
use Rattle.block_store.specs.declared.entry.GroupEntry.{GroupEntry}
use Rattle.block_store.specs.declared.entry.RegionEntry.{RegionEntry}
use Rattle.saved_fields.specs.FieldFormats.{id_field, name_field, no_text_field, region_type_field}
use Rattle.saved_fields.specs.Format.{Format, fields, filled_list, ◌&◌}
use Rattle.saved_fields.specs.PartFormats.{ids_field, no_ids_field, rect_field}

abbrev pub RegionFields : Type 0
RegionFields = ((((List ℕ × RegionType) × List Rect) × List ℕ) × List ℕ) × List ℕ

-- the region of these fields
abbrev pub region_of : RegionFields → RegionEntry
region_of t = record {
  fields = record {
    name = t.0.0.0.0.0;
    sort = t.0.0.0.0.1;
    rects = t.0.0.0.1;
    kept = t.1;
  };
  groups = t.0.0.1;
  props = t.0.1;
}

abbrev pub region_fields : RegionEntry → RegionFields
region_fields e = (((((e.fields.name, e.fields.sort), e.fields.rects), e.groups), e.props), e.fields.kept)

-- a region, which has no groups, no properties and no kept words yet
unfoldable pub region_format : Format RegionEntry
region_format = fields region_of region_fields (
    name_field & region_type_field & filled_list 1000000 rect_field & no_ids_field & no_ids_field & no_text_field
    )

-- the group of these fields
abbrev pub group_of : (((List ℕ × ℕ) × List ℕ) × List ℕ) × List ℕ → GroupEntry
group_of t = record {
  fields = record { name = t.0.0.0.0; region = t.0.0.0.1; kept = t.1 };
  members = t.0.0.1;
  props = t.0.1;
}

-- a group, which has no properties and no kept words yet
unfoldable pub group_format : Format GroupEntry
group_format = fields group_of (λ e. ((((e.fields.name, e.fields.region), e.members), e.props), e.fields.kept)) (
    name_field & id_field & ids_field & no_ids_field & no_text_field
    )

-- the property of these fields
abbrev pub prop_of : (ℕ × ℕ) × List ℕ → PropRec
prop_of t = record { definition = t.0.0; object = t.0.1; value = t.1 }

-- a property, which has no value yet
unfoldable pub prop_format : Format PropRec
prop_format = fields prop_of (λ r. ((r.definition, r.object), r.value)) (id_field & id_field & no_text_field)
