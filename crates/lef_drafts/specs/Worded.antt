-- What the words of a statement name.
use Rattle.std.specs.Prelude.{List, ℕ, Option, Some, None, if◌then◌else◌, unwrap_or}
use Rattle.odb_base.specs.declared.codes.direction.Direction.{Direction}
use Rattle.odb_base.specs.declared.codes.direction.Direction.TheVariants as direction
use Rattle.odb_base.specs.declared.codes.layer_direction.LayerDirection.{LayerDirection}
use Rattle.odb_base.specs.declared.codes.layer_direction.LayerDirection.TheVariants as layer_direction
use Rattle.odb_base.specs.declared.codes.layer_type.LayerType.{LayerType}
use Rattle.odb_base.specs.declared.codes.layer_type.LayerType.TheVariants as layer_type
use Rattle.odb_base.specs.declared.codes.site_class.SiteClass.{SiteClass}
use Rattle.odb_base.specs.declared.codes.site_class.SiteClass.TheVariants as site_class
use Rattle.odb_base.specs.declared.codes.usage.Usage.{Usage}
use Rattle.odb_base.specs.declared.codes.usage.Usage.TheVariants as usage
use Rattle.lef_forms.specs.declared.keyword.Keyword.TheVariants as keyword
use Rattle.lef_forms.specs.Keywords.{text_of}
use Rattle.lef_forms.specs.WordSets.{direction_in, layer_direction_in, layer_type_in, site_class_in}
use Rattle.ld_forms.specs.Worded.{usage_in}
use Rattle.lef_drafts.specs.Values.{Words, one_of}
use Rattle.ld_forms.specs.Kept.{has_word}

-- what the first word names, or this where it names nothing
abbrev pub named_first : {A : Type 0} → (List ℕ → Option A) → A → Option (List ℕ) → A
named_first value_in default None = default
named_first value_in default (Some word) = unwrap_or (value_in word) default

-- the type of a layer that the first word names, or Other
abbrev pub layer_type_named : Words → LayerType
layer_type_named words = named_first layer_type_in layer_type.Other (one_of words)

-- the direction of a layer that the first word names, or none
abbrev pub layer_direction_named : Words → LayerDirection
layer_direction_named words = named_first layer_direction_in layer_direction.None (one_of words)

-- the class of a site that the first word names, or Core
abbrev pub site_class_named : Words → SiteClass
site_class_named words = named_first site_class_in site_class.Core (one_of words)

-- the use of a pin that the first word names, or none
abbrev pub pin_use_named : Words → Usage
pin_use_named words = named_first usage_in usage.None (one_of words)

-- one word, or OUTPUT TRISTATE
abbrev pub pin_direction_named : Words → Direction
pin_direction_named words =
    if has_word (text_of keyword.Tristate) words then direction.Tristate
    else if has_word (text_of keyword.Output) words then direction.Output
    else named_first direction_in direction.None (one_of words)
