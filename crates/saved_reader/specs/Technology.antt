-- A technology, one table of fields for each record.
use Rattle.std.specs.Prelude.{Bool, List, ℕ, ℤ, is_none}
use Rattle.odb_base.specs.declared.codes.layer_direction.LayerDirection.{LayerDirection}
use Rattle.odb_base.specs.declared.codes.layer_type.LayerType.{LayerType}
use Rattle.odb_base.specs.declared.codes.site_class.SiteClass.{SiteClass}
use Rattle.odb_base.specs.declared.geometry.Shape.{Shape}
use Rattle.tech.specs.Technology.{Technology}
use Rattle.tech.specs.declared.layer.Layer.{Layer}
use Rattle.tech.specs.declared.site.Site.{Site}
use Rattle.tech.specs.declared.via.TechVia.{TechVia}
use Rattle.lawful_parts.specs.Lawful.{orient_of}
use Rattle.saved_fields.specs.FieldFormats.{coordinate_field, flag_field, layer_direction_field, layer_type_field, name_field, number_field, site_class_field, small_field}
use Rattle.saved_fields.specs.Format.{Format, fields, list, passing, ◌&◌}
use Rattle.saved_fields.specs.PartFormats.{shapes_field}

abbrev pub LayerFields : Type 0
LayerFields = (((((List ℕ × LayerType) × LayerDirection) × ℤ) × ℤ) × ℤ) × ℤ

-- the layer of these fields
abbrev pub layer_of : LayerFields → Layer
layer_of t = record {
  name = t.0.0.0.0.0.0;
  sort = t.0.0.0.0.0.1;
  direction = t.0.0.0.0.1;
  pitch_x = t.0.0.0.1;
  pitch_y = t.0.0.1;
  width = t.0.1;
  spacing = t.1;
}

abbrev pub layer_fields : Layer → LayerFields
layer_fields l = ((((((l.name, l.sort), l.direction), l.pitch_x), l.pitch_y), l.width), l.spacing)

-- a layer
unfoldable pub layer_format : Format Layer
layer_format = fields layer_of layer_fields (
    name_field & layer_type_field & layer_direction_field & coordinate_field & coordinate_field & coordinate_field & coordinate_field
    )

-- the word isn't that of an orientation
abbrev pub is_no_orient : List ℕ → Bool
is_no_orient word = is_none (orient_of word)

-- the name of a via, which isn't the word of an orientation
unfoldable pub via_name_field : Format (List ℕ)
via_name_field = passing is_no_orient name_field

-- the via of these fields
abbrev pub via_of : (List ℕ × Bool) × List Shape → TechVia
via_of t = record { name = t.0.0; default = t.0.1; shapes = t.1 }

-- a via
unfoldable pub via_format : Format TechVia
via_format = fields via_of (λ v. ((v.name, v.default), v.shapes)) (via_name_field & flag_field & shapes_field)

-- the site of these fields
abbrev pub site_of : (((List ℕ × SiteClass) × ℕ) × ℤ) × ℤ → Site
site_of t = record {
  name = t.0.0.0.0;
  class = t.0.0.0.1;
  symmetry = record { 0 = t.0.0.1 };
  width = t.0.1;
  height = t.1;
}

-- a site
unfoldable pub site_format : Format Site
site_format = fields site_of (λ s. ((((s.name, s.class), s.symmetry.0), s.width), s.height)) (
    name_field & site_class_field & small_field 7 & coordinate_field & coordinate_field
    )

-- the technology of these units, layers, vias and sites
abbrev pub technology_of : ((ℕ × List Layer) × List TechVia) × List Site → Technology
technology_of t = record { units = t.0.0.0; layers = t.0.0.1; vias = t.0.1; sites = t.1 }

-- the technology: the units, and layers, vias and sites, each in the order of their identifiers
unfoldable pub tech_format : Format Technology
tech_format = fields technology_of (λ t. (((t.units, t.layers), t.vias), t.sites)) (
    number_field 0 100000 & list 1000000 layer_format & list 1000000 via_format & list 1000000 site_format
    )
