-- The words that a place may take, and what they name.
use Rattle.std.specs.Prelude.{Bool, List, [], ◌∷◌, ℕ, Option, is_some}
use Rattle.odb_base.specs.declared.codes.direction.Direction.{Direction}
use Rattle.odb_base.specs.declared.codes.direction.Direction.TheVariants as direction
use Rattle.odb_base.specs.declared.codes.orient.Orient.{Orient}
use Rattle.odb_base.specs.declared.codes.owner.Owner.{Owner}
use Rattle.odb_base.specs.declared.codes.prop_type.PropType.{PropType}
use Rattle.odb_base.specs.declared.codes.region_type.RegionType.{RegionType}
use Rattle.odb_base.specs.declared.codes.region_type.RegionType.TheVariants as region_type
use Rattle.odb_base.specs.declared.codes.track_axis.TrackAxis.{TrackAxis}
use Rattle.odb_base.specs.Direction.{direction_word}
use Rattle.odb_base.specs.Orient.{orient_word, orients}
use Rattle.odb_base.specs.Owner.{owner_word, owners}
use Rattle.odb_base.specs.PropType.{prop_type_word, prop_types}
use Rattle.odb_base.specs.RegionType.{region_type_word}
use Rattle.odb_base.specs.TrackAxis.{track_axes, track_axis_word}
use Rattle.ld_forms.specs.Worded.{named, usage_in}
use Rattle.def_forms.specs.declared.word_set.WordSet.{WordSet}
use Rattle.def_forms.specs.declared.word_set.WordSet.TheVariants as set

-- an orientation
unfoldable pub orientation_in : List ℕ → Option Orient
orientation_in word = named orient_word orients word

-- the axis of tracks
unfoldable pub axis_in : List ℕ → Option TrackAxis
axis_in word = named track_axis_word track_axes word

-- TYPE of a region
unfoldable pub region_type_in : List ℕ → Option RegionType
region_type_in word = named region_type_word (region_type.Fence ∷ region_type.Guide ∷ []) word

-- the type of a property
unfoldable pub prop_type_in : List ℕ → Option PropType
prop_type_in word = named prop_type_word prop_types word

-- the owner of properties
unfoldable pub owner_in : List ℕ → Option Owner
owner_in word = named owner_word owners word

-- DIRECTION of a pin
unfoldable pub direction_in : List ℕ → Option Direction
direction_in word = named direction_word (direction.Input ∷ direction.Output ∷ direction.Inout ∷ direction.Feedthru ∷ []) word

-- the word is in the set
unfoldable pub has : WordSet → List ℕ → Bool
has set.Orientation word = is_some (orientation_in word)
has set.Axis word = is_some (axis_in word)
has set.RegionType word = is_some (region_type_in word)
has set.PropType word = is_some (prop_type_in word)
has set.Direction word = is_some (direction_in word)
has set.Use word = is_some (usage_in word)
