-- The words that a place may take, and what they name.
use Rattle.std.specs.Prelude.{◌||◌, Bool, List, [], ◌∷◌, ℕ, Option, is_some, not}
use Rattle.odb_base.specs.declared.codes.direction.Direction.{Direction}
use Rattle.odb_base.specs.declared.codes.direction.Direction.TheVariants as direction
use Rattle.odb_base.specs.declared.codes.layer_direction.LayerDirection.{LayerDirection}
use Rattle.odb_base.specs.declared.codes.layer_direction.LayerDirection.TheVariants as layer_direction
use Rattle.odb_base.specs.declared.codes.layer_type.LayerType.{LayerType}
use Rattle.odb_base.specs.declared.codes.layer_type.LayerType.TheVariants as layer_type
use Rattle.odb_base.specs.declared.codes.site_class.SiteClass.{SiteClass}
use Rattle.odb_base.specs.declared.codes.site_class.SiteClass.TheVariants as site_class
use Rattle.odb_base.specs.Direction.{direction_word}
use Rattle.odb_base.specs.LayerDirection.{layer_direction_word}
use Rattle.odb_base.specs.LayerType.{layer_type_word}
use Rattle.odb_base.specs.SiteClass.{site_class_word}
use Rattle.lef_forms.specs.declared.symmetry.Symmetry.{Symmetry}
use Rattle.lef_forms.specs.declared.symmetry.Symmetry.TheVariants as symmetry
use Rattle.lef_forms.specs.declared.keyword.Keyword.TheVariants as keyword
use Rattle.lef_forms.specs.declared.word_set.WordSet.{WordSet}
use Rattle.lef_forms.specs.declared.word_set.WordSet.TheVariants as set
use Rattle.ld_forms.specs.Places.{is_semicolon}
use Rattle.ld_forms.specs.Worded.{named, usage_in}
use Rattle.lef_forms.specs.Keywords.{is}
use Rattle.lef_forms.specs.Symmetry.{symmetry_word}

-- TYPE of a layer
unfoldable pub layer_type_in : List ℕ → Option LayerType
layer_type_in word = named layer_type_word (layer_type.Routing ∷ layer_type.Cut ∷ layer_type.Masterslice ∷ layer_type.Overlap ∷ layer_type.Implant ∷ []) word

-- DIRECTION of a layer
unfoldable pub layer_direction_in : List ℕ → Option LayerDirection
layer_direction_in word = named layer_direction_word (layer_direction.Horizontal ∷ layer_direction.Vertical ∷ []) word

-- CLASS of a site
unfoldable pub site_class_in : List ℕ → Option SiteClass
site_class_in word = named site_class_word (site_class.Core ∷ site_class.Pad ∷ []) word

-- SYMMETRY of a site or a macro
unfoldable pub symmetry_in : List ℕ → Option Symmetry
symmetry_in word = named symmetry_word (symmetry.X ∷ symmetry.Y ∷ symmetry.R90 ∷ []) word

-- DIRECTION of a pin that is no output
unfoldable pub direction_in : List ℕ → Option Direction
direction_in word = named direction_word (direction.Input ∷ direction.Inout ∷ direction.Feedthru ∷ []) word

-- the third word of a longer current density, or the first word of a further statement of it
unfoldable pub is_density_word : List ℕ → Bool
is_density_word word = is keyword.Frequency word || is keyword.Width word || is keyword.CutArea word

-- the word is in the set
unfoldable pub has : WordSet → List ℕ → Bool
has set.LayerType word = is_some (layer_type_in word)
has set.LayerDirection word = is_some (layer_direction_in word)
has set.SiteClass word = is_some (site_class_in word)
has set.Symmetry word = is_some (symmetry_in word)
has set.PinDirection word = is_some (direction_in word)
has set.PinUse word = is_some (usage_in word)
has set.Density word = is_density_word word
has set.Any word = not (is_semicolon word)
