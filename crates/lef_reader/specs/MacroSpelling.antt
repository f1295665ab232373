-- Vias, macros, pins and texts spelled out by their statements, and what the statements say.
use Rattle.std.specs.Prelude.{◌≡◌, ◌+◌, ◌-◌, ◌^◌, ◌++◌, Bool, true, false, List, [], ◌∷◌, ℕ, Option, Some, None, codes, fold, if◌then◌else◌, min, ⊤}
use Rattle.std.specs.List.{AllByRecursion, flat_map}
use Rattle.odb_base.specs.declared.codes.direction.Direction.TheVariants as direction
use Rattle.lef_forms.specs.declared.form.Section.TheVariants as section
use Rattle.lef_forms.specs.declared.word_set.WordSet.TheVariants as set
use Rattle.ld_forms.specs.Names.{is_name}
use Rattle.lef_forms.specs.Numbers.{is_number}
use Rattle.lef_forms.specs.WordSets.{has}
use Rattle.lef_tree.specs.declared.tree.LefMacro.{LefMacro}
use Rattle.lef_tree.specs.declared.tree.LefPin.{LefPin}
use Rattle.lef_tree.specs.declared.tree.LefRect.{LefRect}
use Rattle.lef_tree.specs.declared.tree.LefShape.{LefShape}
use Rattle.lef_tree.specs.declared.tree.LefVia.{LefVia}
use Rattle.lef_drafts.specs.Drafts.{kept_first, new_macro, new_pin}
use Rattle.lef_tree.specs.Pins.{has_pin}
use Rattle.lef_reader.specs.Spelling.{AreOther, IsPassedOver, semicolon}
use Rattle.ld_forms.specs.Kept.{joined}
use Rattle.lef_drafts.specs.Values.{Words, symmetries_of}
use Rattle.lef_drafts.specs.Worded.{pin_direction_named, pin_use_named}

-- ---- shapes

-- a rectangle, on a mask where one is stated
pub record RectLine : Type 0 where
  pub mask : Option (List ℕ)
  pub rect : LefRect

-- LAYER name ; and the rectangles on it
pub record Shapes : Type 0 where
  pub layer : List ℕ
  pub rects : List RectLine

-- MASK n
abbrev pub mask_words : Option (List ℕ) → Words
mask_words None = []
mask_words (Some n) = codes "MASK" ∷ n ∷ []

-- RECT [MASK n] x1 y1 x2 y2 ;
abbrev pub rect_words : RectLine → Words
rect_words r = codes "RECT" ∷ mask_words r.mask ++ r.rect.x1 ∷ r.rect.y1 ∷ r.rect.x2 ∷ r.rect.y2 ∷ semicolon ∷ []

-- the mask, where one is stated, is a number
abbrev pub IsMask : Option (List ℕ) → Type 0
IsMask None = ⊤
IsMask (Some n) = is_number n ≡ true

-- the coordinates of the two corners are numbers
abbrev pub AreCorners : LefRect → Type 0
AreCorners r = (is_number r.x1 ≡ true) × (is_number r.y1 ≡ true) × (is_number r.x2 ≡ true) × (is_number r.y2 ≡ true)

-- the words of a rectangle are of its form
abbrev pub IsRect : RectLine → Type 0
IsRect r = IsMask r.mask × AreCorners r.rect

-- LAYER name ; and a RECT for each rectangle
abbrev pub shapes_words : Shapes → Words
shapes_words s = codes "LAYER" ∷ s.layer ∷ semicolon ∷ flat_map rect_words s.rects

-- the words of shapes on a layer are of their forms
abbrev pub AreShapes : Shapes → Type 0
AreShapes s = (is_name s.layer ≡ true) × AllByRecursion IsRect s.rects

-- the shapes with a rectangle on the layer, whatever its mask
abbrev pub with_rect_on : List ℕ → List LefShape → RectLine → List LefShape
with_rect_on layer shapes r = shapes ++ record { layer = layer; rect = r.rect } ∷ []

-- the layer that was named last, and the shapes
abbrev pub Drawn : Type 0
Drawn = Option (List ℕ) × List LefShape

-- the layer that is named then, and the shapes with the rectangles on it
abbrev pub drawn_with : Drawn → Shapes → Drawn
drawn_with d s = (Some s.layer, fold (with_rect_on s.layer) d.1 s.rects)

-- the shapes of one section after another
abbrev pub shapes_with : List LefShape → List Shapes → List LefShape
shapes_with shapes more = (fold drawn_with (None, shapes) more).1

-- ---- vias

-- which words stand behind the name of a via
pub record ViaHeader : Type 0 where
  pub default : Bool
  pub generated : Bool
  pub top_of_stack : Bool

-- a word, where it is stated
abbrev pub stated : Bool → List ℕ → Words
stated true word = word ∷ []
stated false word = []

-- [DEFAULT] [GENERATED] [TOPOFSTACKONLY]
abbrev pub header_words : ViaHeader → Words
header_words h = stated h.default (codes "DEFAULT") ++ stated h.generated (codes "GENERATED") ++ stated h.top_of_stack (codes "TOPOFSTACKONLY")

-- VIA name and these words .. END name
abbrev pub via_text : List ℕ → ViaHeader → List Shapes → Words
via_text name header more = codes "VIA" ∷ name ∷ header_words header ++ flat_map shapes_words more ++ codes "END" ∷ name ∷ []

-- the via that is spelled so; of its header only DEFAULT is kept
abbrev pub via_of : List ℕ → ViaHeader → List Shapes → LefVia
via_of name header more = record { name = name; default = header.default; shapes = shapes_with [] more }

-- ---- pins

-- a statement of a pin
pub data PinLine : Type 0 where
  PinDirectionIs : List ℕ → PinLine
  PinIsOutput : PinLine
  PinIsTristate : PinLine
  PinUseIs : List ℕ → PinLine
  PortIs : List Shapes → PinLine

-- the words of a statement of a pin
abbrev pub pin_words : PinLine → Words
pin_words (PinDirectionIs w) = codes "DIRECTION" ∷ w ∷ semicolon ∷ []
pin_words PinIsOutput = codes "DIRECTION" ∷ codes "OUTPUT" ∷ semicolon ∷ []
pin_words PinIsTristate = codes "DIRECTION" ∷ codes "OUTPUT" ∷ codes "TRISTATE" ∷ semicolon ∷ []
pin_words (PinUseIs w) = codes "USE" ∷ w ∷ semicolon ∷ []
pin_words (PortIs more) = codes "PORT" ∷ flat_map shapes_words more ++ codes "END" ∷ []

-- the words of a statement of a pin are of its form
abbrev pub IsPinLine : PinLine → Type 0
IsPinLine (PinDirectionIs w) = has set.PinDirection w ≡ true
IsPinLine PinIsOutput = ⊤
IsPinLine PinIsTristate = ⊤
IsPinLine (PinUseIs w) = has set.PinUse w ≡ true
IsPinLine (PortIs more) = AllByRecursion AreShapes more

-- what it says of the pin; the shapes of all ports add up
abbrev pub pin_with : LefPin → PinLine → LefPin
pin_with pin (PinDirectionIs w) = record pin { direction = pin_direction_named (w ∷ []) }
pin_with pin PinIsOutput = record pin { direction = direction.Output }
pin_with pin PinIsTristate = record pin { direction = direction.Tristate }
pin_with pin (PinUseIs w) = record pin { usage = pin_use_named (w ∷ []) }
pin_with pin (PortIs more) = record pin { shapes = shapes_with pin.shapes more }

-- PIN name .. END name
abbrev pub pin_text : List ℕ → List PinLine → Words
pin_text name lines = codes "PIN" ∷ name ∷ flat_map pin_words lines ++ codes "END" ∷ name ∷ []

-- the pin of this name after these statements
abbrev pub pin_of : List ℕ → List PinLine → LefPin
pin_of name lines = fold pin_with (new_pin name) lines

-- ---- macros

-- a statement of a macro, or a part in it that is passed over
pub data MacroLine : Type 0 where
  MacroClassIs : List ℕ → Words → MacroLine
  ForeignIs : List ℕ → Words → MacroLine
  OriginIs : List ℕ → List ℕ → MacroLine
  MacroSizeIs : List ℕ → List ℕ → MacroLine
  MacroSymmetryIs : List ℕ → Words → MacroLine
  SiteNamed : List ℕ → Words → MacroLine
  PinIs : List ℕ → List PinLine → MacroLine
  ObsIs : List Shapes → MacroLine
  PartIs : List ℕ → Words → MacroLine

-- the words of a statement of a macro, or of a part in it
abbrev pub macro_words : MacroLine → Words
macro_words (MacroClassIs w others) = codes "CLASS" ∷ w ∷ others ++ semicolon ∷ []
macro_words (ForeignIs w others) = codes "FOREIGN" ∷ w ∷ others ++ semicolon ∷ []
macro_words (OriginIs x y) = codes "ORIGIN" ∷ x ∷ y ∷ semicolon ∷ []
macro_words (MacroSizeIs w h) = codes "SIZE" ∷ w ∷ codes "BY" ∷ h ∷ semicolon ∷ []
macro_words (MacroSymmetryIs w others) = codes "SYMMETRY" ∷ w ∷ others ++ semicolon ∷ []
macro_words (SiteNamed name others) = codes "SITE" ∷ name ∷ others ++ semicolon ∷ []
macro_words (PinIs name lines) = pin_text name lines
macro_words (ObsIs more) = codes "OBS" ∷ flat_map shapes_words more ++ codes "END" ∷ []
macro_words (PartIs first words) = first ∷ words

-- the words of a statement of a macro, or of a part in it, are of its form
abbrev pub IsMacroLine : MacroLine → Type 0
IsMacroLine (MacroClassIs w others) = AreOther (w ∷ others)
IsMacroLine (ForeignIs w others) = AreOther (w ∷ others)
IsMacroLine (OriginIs x y) = (is_number x ≡ true) × (is_number y ≡ true)
IsMacroLine (MacroSizeIs w h) = (is_number w ≡ true) × (is_number h ≡ true)
IsMacroLine (MacroSymmetryIs w others) = AllByRecursion (λ v. has set.Symmetry v ≡ true) (w ∷ others)
IsMacroLine (SiteNamed name others) = (is_name name ≡ true) × AreOther others
IsMacroLine (PinIs name lines) = (is_name name ≡ true) × AllByRecursion IsPinLine lines
IsMacroLine (ObsIs more) = AllByRecursion AreShapes more
IsMacroLine (PartIs first words) = IsPassedOver section.Macro first words

-- a macro, and how many parts were passed over or left out so far
abbrev pub Counted : Type 0
Counted = LefMacro × ℕ

-- a pin is put last, and a second one of a name is left out and counted
abbrev pub with_named_pin : Counted → LefPin → Counted
with_named_pin m pin =
    if has_pin pin.name m.0.terminals then (m.0, min (m.1 + 1) (2 ^ 64 - 1))
    else (record m.0 { terminals = m.0.terminals ++ pin ∷ [] }, m.1)

-- what it says of the macro, if anything; of SITE the first stands, of the others the last, and the shapes of all OBS add up
abbrev pub macro_with : Counted → MacroLine → Counted
macro_with m (MacroClassIs w others) = (record m.0 { class = joined (w ∷ others) }, m.1)
macro_with m (ForeignIs w others) = (record m.0 { foreign = joined (w ∷ others) }, m.1)
macro_with m (OriginIs x y) = (record m.0 { origin_x = Some x; origin_y = Some y }, m.1)
macro_with m (MacroSizeIs w h) = (record m.0 { width = Some w; height = Some h }, m.1)
macro_with m (MacroSymmetryIs w others) = (record m.0 { symmetry = symmetries_of (w ∷ others) }, m.1)
macro_with m (SiteNamed name others) = (record m.0 { site = kept_first m.0.site (Some name) }, m.1)
macro_with m (PinIs name lines) = with_named_pin m (pin_of name lines)
macro_with m (ObsIs more) = (record m.0 { obstructions = shapes_with m.0.obstructions more }, m.1)
macro_with m (PartIs first words) = (m.0, min (m.1 + 1) (2 ^ 64 - 1))

-- MACRO name .. END name
abbrev pub macro_text : List ℕ → List MacroLine → Words
macro_text name lines = codes "MACRO" ∷ name ∷ flat_map macro_words lines ++ codes "END" ∷ name ∷ []

-- the macro of this name after these statements, and the count of what was left out, from this number on
abbrev pub macro_of : List ℕ → ℕ → List MacroLine → Counted
macro_of name count lines = fold macro_with (new_macro name, count) lines
