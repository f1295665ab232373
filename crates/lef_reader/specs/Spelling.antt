-- Objects spelled out by their statements, and what the statements say.
use Rattle.std.specs.Prelude.{◌≡◌, ◌++◌, Bool, true, false, List, [], ◌∷◌, ℕ, Option, Some, None, codes, fold}
use Rattle.std.specs.List.{AllByRecursion, flat_map}
use Rattle.lef_forms.specs.declared.form.Form.{Form}
use Rattle.lef_forms.specs.declared.form.Form.TheVariants as form
use Rattle.lef_forms.specs.declared.form.Section.{Section}
use Rattle.lef_forms.specs.declared.keyword.Keyword.TheVariants as keyword
use Rattle.ld_forms.specs.declared.passing.Passed.{Passed}
use Rattle.ld_forms.specs.declared.passing.Passed.TheVariants as passed
use Rattle.ld_forms.specs.declared.passing.Passing.{Passing}
use Rattle.ld_forms.specs.declared.passing.Passing.TheVariants as passing
use Rattle.ld_forms.specs.Passing.{pass_step, passing_of}
use Rattle.ld_forms.specs.Places.{is_semicolon}
use Rattle.lef_forms.specs.declared.class.Class.{Class}
use Rattle.lef_forms.specs.Classes.{judged}
use Rattle.lef_forms.specs.declared.word_set.WordSet.TheVariants as set
use Rattle.lef_forms.specs.Forms.{form_of}
use Rattle.lef_forms.specs.Keywords.{is}
use Rattle.lef_forms.specs.Numbers.{is_number}
use Rattle.lef_forms.specs.WordSets.{has}
use Rattle.lef_tree.specs.declared.tree.LefLayer.{LefLayer}
use Rattle.lef_tree.specs.declared.tree.LefSite.{LefSite}
use Rattle.lef_drafts.specs.Drafts.{kept_first, new_layer, new_site}
use Rattle.lef_drafts.specs.Values.{Words, symmetries_of}
use Rattle.lef_drafts.specs.Worded.{layer_direction_named, layer_type_named, site_class_named}

-- words that aren't looked at before a `;`
abbrev pub AreOther : Words → Type 0
AreOther words = AllByRecursion (λ w. is_semicolon w ≡ false) words

-- the word that ends a statement
abbrev pub semicolon : List ℕ
semicolon = codes ";"

-- ---- parts that are passed over

-- behind a word of the part, of which these words are kept: it has ended, and these words are left
abbrev pub is_over : Passed Class → Words → List ℕ → Words → (Passing Class → Words → Bool) → Bool
is_over (passed.Goes p) kept word words later = later p kept
is_over (passed.Names p) kept word words later = later p (kept ++ word ∷ [])
is_over passed.Ends kept word [] later = true
is_over passed.Ends kept word (next ∷ words) later = false
is_over passed.Behind kept word words later = false

-- the part ends with the last of these words, and not before
unfoldable pub is_whole : Passing Class → Words → Words → Bool
is_whole p kept [] = false
is_whole p kept (word ∷ words) = is_over (pass_step judged p kept word) kept word words (λ next names. is_whole next names words)

-- what begins in this way is passed over, and these are the words behind its first
abbrev pub is_passed : Option Form → Words → Bool
is_passed (Some (form.Taken s)) words = false
is_passed (Some (form.Passed extent)) words = is_whole (passing_of extent) [] words
is_passed None words = is_whole passing.Statement [] words

-- a first word and those behind it are a part that is passed over in the section
abbrev pub IsPassedOver : Section → List ℕ → Words → Type 0
IsPassedOver s first words =
    (is keyword.End first ≡ false) × (is_semicolon first ≡ false) × (is_passed (form_of s first) words ≡ true)

-- ---- layers

-- a statement of a layer
pub data LayerLine : Type 0 where
  TypeIs : List ℕ → LayerLine
  DirectionIs : List ℕ → LayerLine
  PitchIs : List ℕ → LayerLine
  PitchesAre : List ℕ → List ℕ → LayerLine
  WidthIs : List ℕ → LayerLine
  SpacingIs : List ℕ → Words → LayerLine

-- the words of a statement of a layer
abbrev pub layer_words : LayerLine → Words
layer_words (TypeIs w) = codes "TYPE" ∷ w ∷ semicolon ∷ []
layer_words (DirectionIs w) = codes "DIRECTION" ∷ w ∷ semicolon ∷ []
layer_words (PitchIs a) = codes "PITCH" ∷ a ∷ semicolon ∷ []
layer_words (PitchesAre a b) = codes "PITCH" ∷ a ∷ b ∷ semicolon ∷ []
layer_words (WidthIs a) = codes "WIDTH" ∷ a ∷ semicolon ∷ []
layer_words (SpacingIs a others) = codes "SPACING" ∷ a ∷ others ++ semicolon ∷ []

-- its words are of its form
abbrev pub IsLayerLine : LayerLine → Type 0
IsLayerLine (TypeIs w) = has set.LayerType w ≡ true
IsLayerLine (DirectionIs w) = has set.LayerDirection w ≡ true
IsLayerLine (PitchIs a) = is_number a ≡ true
IsLayerLine (PitchesAre a b) = (is_number a ≡ true) × (is_number b ≡ true)
IsLayerLine (WidthIs a) = is_number a ≡ true
IsLayerLine (SpacingIs a others) = (is_number a ≡ true) × AreOther others

-- what it says of the layer; of SPACING the first stands, of the others the last
abbrev pub layer_with : LefLayer → LayerLine → LefLayer
layer_with layer (TypeIs w) = record layer { sort = layer_type_named (w ∷ []) }
layer_with layer (DirectionIs w) = record layer { direction = layer_direction_named (w ∷ []) }
layer_with layer (PitchIs a) = record layer { pitch_x = Some a; pitch_y = Some a }
layer_with layer (PitchesAre a b) = record layer { pitch_x = Some a; pitch_y = Some b }
layer_with layer (WidthIs a) = record layer { width = Some a }
layer_with layer (SpacingIs a others) = record layer { spacing = kept_first layer.spacing (Some a) }

-- LAYER name .. END name
abbrev pub layer_text : List ℕ → List LayerLine → Words
layer_text name lines = codes "LAYER" ∷ name ∷ flat_map layer_words lines ++ codes "END" ∷ name ∷ []

-- the layer of this name after these statements
abbrev pub layer_of : List ℕ → List LayerLine → LefLayer
layer_of name lines = fold layer_with (new_layer name) lines

-- ---- sites

-- a statement of a site
pub data SiteLine : Type 0 where
  ClassIs : List ℕ → SiteLine
  SymmetryIs : List ℕ → Words → SiteLine
  SizeIs : List ℕ → List ℕ → SiteLine

-- the words of a statement of a site
abbrev pub site_words : SiteLine → Words
site_words (ClassIs w) = codes "CLASS" ∷ w ∷ semicolon ∷ []
site_words (SymmetryIs w others) = codes "SYMMETRY" ∷ w ∷ others ++ semicolon ∷ []
site_words (SizeIs w h) = codes "SIZE" ∷ w ∷ codes "BY" ∷ h ∷ semicolon ∷ []

-- the words of a statement of a site are of its form
abbrev pub IsSiteLine : SiteLine → Type 0
IsSiteLine (ClassIs w) = has set.SiteClass w ≡ true
IsSiteLine (SymmetryIs w others) = AllByRecursion (λ v. has set.Symmetry v ≡ true) (w ∷ others)
IsSiteLine (SizeIs w h) = (is_number w ≡ true) × (is_number h ≡ true)

-- what it says of the site; of repeated statements the last stands
abbrev pub site_with : LefSite → SiteLine → LefSite
site_with site (ClassIs w) = record site { class = site_class_named (w ∷ []) }
site_with site (SymmetryIs w others) = record site { symmetry = symmetries_of (w ∷ others) }
site_with site (SizeIs w h) = record site { width = Some w; height = Some h }

-- SITE name .. END name
abbrev pub site_text : List ℕ → List SiteLine → Words
site_text name lines = codes "SITE" ∷ name ∷ flat_map site_words lines ++ codes "END" ∷ name ∷ []

-- the site of this name after these statements
abbrev pub site_of : List ℕ → List SiteLine → LefSite
site_of name lines = fold site_with (new_site name) lines
