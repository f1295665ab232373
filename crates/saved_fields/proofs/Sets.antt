-- The codes of each set are those of its values, one each.
use Rattle.std.proofs.Common.{refl, arith}
use Rattle.odb_base.specs.Direction.{direction_code, directions}
use Rattle.odb_base.specs.LayerDirection.{layer_direction_code, layer_directions}
use Rattle.odb_base.specs.LayerType.{layer_type_code, layer_types}
use Rattle.odb_base.specs.Orient.{orient_code, orients}
use Rattle.odb_base.specs.RegionType.{region_type_code, region_types}
use Rattle.odb_base.specs.SiteClass.{site_class_code, site_classes}
use Rattle.odb_base.specs.TrackAxis.{track_axes, track_axis_code}
use Rattle.odb_base.specs.Usage.{usage_code, usages}
use Rattle.odb_base.specs.WireStatus.{wire_status_code, wire_statuses}
use Rattle.odb_base.specs.declared.codes.direction.Direction.TheVariants as direction
use Rattle.odb_base.specs.declared.codes.layer_direction.LayerDirection.TheVariants as layer_direction
use Rattle.odb_base.specs.declared.codes.layer_type.LayerType.TheVariants as layer_type
use Rattle.odb_base.specs.declared.codes.orient.Orient.TheVariants as orient
use Rattle.odb_base.specs.declared.codes.region_type.RegionType.TheVariants as region_type
use Rattle.odb_base.specs.declared.codes.site_class.SiteClass.TheVariants as site_class
use Rattle.odb_base.specs.declared.codes.track_axis.TrackAxis.TheVariants as track_axis
use Rattle.odb_base.specs.declared.codes.usage.Usage.TheVariants as usage
use Rattle.odb_base.specs.declared.codes.wire_status.WireStatus.TheVariants as wire_status
use Rattle.saved_fields.proofs.Single.{IsSet}

pub directions_set : IsSet direction_code directions
directions_set = record {
  again = elim [ direction.None ↦ refl | direction.Input ↦ refl | direction.Output ↦ refl | direction.Tristate ↦ refl | direction.Inout ↦ refl | direction.Feedthru ↦ refl ];
  small = elim [ direction.None ↦ omega arith | direction.Input ↦ omega arith | direction.Output ↦ omega arith | direction.Tristate ↦ omega arith | direction.Inout ↦ omega arith | direction.Feedthru ↦ omega arith ];
}

pub layer_directions_set : IsSet layer_direction_code layer_directions
layer_directions_set = record {
  again = elim [ layer_direction.None ↦ refl | layer_direction.Horizontal ↦ refl | layer_direction.Vertical ↦ refl ];
  small = elim [ layer_direction.None ↦ omega arith | layer_direction.Horizontal ↦ omega arith | layer_direction.Vertical ↦ omega arith ];
}

pub layer_types_set : IsSet layer_type_code layer_types
layer_types_set = record {
  again = elim [ layer_type.Other ↦ refl | layer_type.Routing ↦ refl | layer_type.Cut ↦ refl | layer_type.Masterslice ↦ refl | layer_type.Overlap ↦ refl | layer_type.Implant ↦ refl ];
  small = elim [ layer_type.Other ↦ omega arith | layer_type.Routing ↦ omega arith | layer_type.Cut ↦ omega arith | layer_type.Masterslice ↦ omega arith | layer_type.Overlap ↦ omega arith | layer_type.Implant ↦ omega arith ];
}

pub orients_set : IsSet orient_code orients
orients_set = record {
  again = elim [ orient.N ↦ refl | orient.S ↦ refl | orient.W ↦ refl | orient.E ↦ refl | orient.FN ↦ refl | orient.FS ↦ refl | orient.FW ↦ refl | orient.FE ↦ refl ];
  small = elim [ orient.N ↦ omega arith | orient.S ↦ omega arith | orient.W ↦ omega arith | orient.E ↦ omega arith | orient.FN ↦ omega arith | orient.FS ↦ omega arith | orient.FW ↦ omega arith | orient.FE ↦ omega arith ];
}

pub region_types_set : IsSet region_type_code region_types
region_types_set = record {
  again = elim [ region_type.None ↦ refl | region_type.Fence ↦ refl | region_type.Guide ↦ refl ];
  small = elim [ region_type.None ↦ omega arith | region_type.Fence ↦ omega arith | region_type.Guide ↦ omega arith ];
}

pub site_classes_set : IsSet site_class_code site_classes
site_classes_set = record {
  again = elim [ site_class.Core ↦ refl | site_class.Pad ↦ refl ];
  small = elim [ site_class.Core ↦ omega arith | site_class.Pad ↦ omega arith ];
}

pub track_axes_set : IsSet track_axis_code track_axes
track_axes_set = record {
  again = elim [ track_axis.X ↦ refl | track_axis.Y ↦ refl ];
  small = elim [ track_axis.X ↦ omega arith | track_axis.Y ↦ omega arith ];
}

pub usages_set : IsSet usage_code usages
usages_set = record {
  again = elim [ usage.None ↦ refl | usage.Signal ↦ refl | usage.Analog ↦ refl | usage.Power ↦ refl | usage.Ground ↦ refl | usage.Clock ↦ refl | usage.Reset ↦ refl | usage.Scan ↦ refl | usage.TieOff ↦ refl ];
  small = elim [ usage.None ↦ omega arith | usage.Signal ↦ omega arith | usage.Analog ↦ omega arith | usage.Power ↦ omega arith | usage.Ground ↦ omega arith | usage.Clock ↦ omega arith | usage.Reset ↦ omega arith | usage.Scan ↦ omega arith | usage.TieOff ↦ omega arith ];
}

pub wire_statuses_set : IsSet wire_status_code wire_statuses
wire_statuses_set = record {
  again = elim [ wire_status.Routed ↦ refl | wire_status.Fixed ↦ refl | wire_status.Cover ↦ refl ];
  small = elim [ wire_status.Routed ↦ omega arith | wire_status.Fixed ↦ omega arith | wire_status.Cover ↦ omega arith ];
}
