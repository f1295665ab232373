-- What an open section has, statement by statement, and what its end gives.
use Rattle.std.specs.Prelude.{◌++◌, Bool, true, false, List, [], ◌∷◌, ℕ, Option, Some, None, if◌then◌else◌, is_none}
use Rattle.std.specs.Option.{option_and_then}
use Rattle.std.specs.Str.{bytes_eq}
use Rattle.odb_base.specs.declared.codes.direction.Direction.TheVariants as direction
use Rattle.odb_base.specs.declared.codes.layer_direction.LayerDirection.TheVariants as layer_direction
use Rattle.odb_base.specs.declared.codes.layer_type.LayerType.TheVariants as layer_type
use Rattle.odb_base.specs.declared.codes.site_class.SiteClass.TheVariants as site_class
use Rattle.odb_base.specs.declared.codes.usage.Usage.TheVariants as usage
use Rattle.lef_forms.specs.declared.form.Section.{Section}
use Rattle.lef_forms.specs.declared.form.Section.TheVariants as section
use Rattle.lef_forms.specs.declared.form.Statement.{Statement}
use Rattle.lef_forms.specs.declared.form.Statement.TheVariants as statement
use Rattle.lef_forms.specs.declared.keyword.Keyword.TheVariants as keyword
use Rattle.lef_forms.specs.Keywords.{is}
use Rattle.ld_forms.specs.Names.{per_micron_in}
use Rattle.lef_drafts.specs.declared.draft.Closed.{Closed}
use Rattle.lef_drafts.specs.declared.draft.Closed.TheVariants as closed
use Rattle.lef_drafts.specs.declared.draft.Draft.{Draft}
use Rattle.lef_drafts.specs.declared.draft.Draft.TheVariants as draft
use Rattle.lef_tree.specs.declared.tree.LefItem.TheVariants as item
use Rattle.lef_tree.specs.declared.tree.LefLayer.{LefLayer}
use Rattle.lef_tree.specs.declared.tree.LefMacro.{LefMacro}
use Rattle.lef_tree.specs.declared.tree.LefPin.{LefPin}
use Rattle.lef_tree.specs.declared.tree.LefRect.{LefRect}
use Rattle.lef_tree.specs.declared.tree.LefShape.{LefShape}
use Rattle.lef_tree.specs.declared.tree.LefSite.{LefSite}
use Rattle.lef_tree.specs.declared.tree.LefVia.{LefVia}
use Rattle.lef_tree.specs.Pins.{has_pin}
use Rattle.ld_forms.specs.Kept.{joined}
use Rattle.lef_drafts.specs.Values.{Words, last_of_two, name_of, one_of, rect_of, second_of, symmetries_of}
use Rattle.lef_drafts.specs.Worded.{layer_direction_named, layer_type_named, pin_direction_named, pin_use_named, site_class_named}

-- ---- what isn't stated

-- a layer of which only the name is stated
abbrev pub new_layer : List ℕ → LefLayer
new_layer name = record {
  name = name;
  sort = layer_type.Other;
  direction = layer_direction.None;
  pitch_x = None;
  pitch_y = None;
  width = None;
  spacing = None;
}

-- a via of which only the name is stated, and whether it is a default one
abbrev pub new_via : List ℕ → Bool → LefVia
new_via name default = record { name = name; default = default; shapes = [] }

-- a site of which only the name is stated
abbrev pub new_site : List ℕ → LefSite
new_site name = record { name = name; class = site_class.Core; symmetry = 0; width = None; height = None }

-- a macro of which only the name is stated
abbrev pub new_macro : List ℕ → LefMacro
new_macro name = record {
  name = name;
  class = [];
  origin_x = None;
  origin_y = None;
  width = None;
  height = None;
  symmetry = 0;
  site = None;
  foreign = [];
  terminals = [];
  obstructions = [];
}

-- a pin of which only the name is stated
abbrev pub new_pin : List ℕ → LefPin
new_pin name = record { name = name; direction = direction.None; usage = usage.None; shapes = [] }

-- ---- headers at the top

-- the section of this name that a header opens
abbrev pub opened_with_name : Statement → Bool → List ℕ → Draft
opened_with_name statement.Layer default name = draft.Layer (new_layer name)
opened_with_name statement.Via default name = draft.Via (new_via name default) None
opened_with_name statement.Site default name = draft.Site (new_site name)
opened_with_name statement.Macro default name = draft.Macro (new_macro name)
opened_with_name _ default name = draft.Top

-- the section that a header opens, where it has a name
abbrev pub opened_if_named : Statement → Bool → Option (List ℕ) → Draft
opened_if_named s default None = draft.Top
opened_if_named s default (Some name) = opened_with_name s default name

-- the word is DEFAULT
abbrev pub is_default : Option (List ℕ) → Bool
is_default None = false
is_default (Some word) = is keyword.Default word

-- a name stands first, and behind it the words of a via
abbrev pub opened_by_name : Statement → Words → Draft
opened_by_name s values = opened_if_named s (is_default (second_of values)) (name_of values)

-- the section that a header opens
unfoldable pub opened : Statement → Words → Draft
opened statement.Units values = draft.Units None
opened s values = opened_by_name s values

-- ---- statements

-- DATABASE MICRONS
unfoldable pub units_set : Statement → Words → Option ℕ → Option ℕ
units_set statement.Database values units = option_and_then per_micron_in (one_of values)
units_set _ values units = units

-- the first of two that is stated
abbrev pub kept_first : {A : Type 0} → Option A → Option A → Option A
kept_first None second = second
kept_first (Some first) second = Some first

-- of repeated statements the last stands, but for the first SPACING
unfoldable pub layer_set : Statement → Words → LefLayer → LefLayer
layer_set statement.LayerType values layer = record layer { sort = layer_type_named values }
layer_set statement.LayerDirection values layer = record layer { direction = layer_direction_named values }
layer_set statement.Pitch values layer = record layer { pitch_x = one_of values; pitch_y = last_of_two values }
layer_set statement.Width values layer = record layer { width = one_of values }
layer_set statement.Spacing values layer = record layer { spacing = kept_first layer.spacing (one_of values) }
layer_set _ values layer = layer

-- of repeated statements the last stands
unfoldable pub site_set : Statement → Words → LefSite → LefSite
site_set statement.SiteClass values site = record site { class = site_class_named values }
site_set statement.Symmetry values site = record site { symmetry = symmetries_of values }
site_set statement.Size values site = record site { width = one_of values; height = second_of values }
site_set _ values site = site

-- the pin of this name is open
abbrev pub pin_open : LefMacro → Option (List ℕ) → Draft
pin_open body None = draft.Macro body
pin_open body (Some name) = draft.Pin body (new_pin name)

-- the pin that a statement names is open
abbrev pub pin_opened : Words → LefMacro → Draft
pin_opened values body = pin_open body (name_of values)

-- of repeated statements the last stands, but for the first SITE
abbrev pub macro_stated : Statement → Words → LefMacro → LefMacro
macro_stated statement.MacroClass values body = record body { class = joined values }
macro_stated statement.Foreign values body = record body { foreign = joined values }
macro_stated statement.Origin values body = record body { origin_x = one_of values; origin_y = second_of values }
macro_stated statement.Size values body = record body { width = one_of values; height = second_of values }
macro_stated statement.Symmetry values body = record body { symmetry = symmetries_of values }
macro_stated statement.MacroSite values body = record body { site = kept_first body.site (name_of values) }
macro_stated _ values body = body

unfoldable pub macro_set : Statement → Words → LefMacro → Draft
macro_set statement.Pin values body = pin_opened values body
macro_set statement.Obs values body = draft.Obs body None
macro_set s values body = draft.Macro (macro_stated s values body)

-- of repeated statements the last stands; PORT opens a section
unfoldable pub pin_set : Statement → Words → LefMacro → LefPin → Draft
pin_set statement.PinDirection values body pin = draft.Pin body (record pin { direction = pin_direction_named values })
pin_set statement.PinUse values body pin = draft.Pin body (record pin { usage = pin_use_named values })
pin_set statement.Port values body pin = draft.Port body pin None
pin_set _ values body pin = draft.Pin body pin

-- ---- shapes

-- the shapes with a rectangle on the layer
abbrev pub with_shape : Option (List ℕ) → Option LefRect → List LefShape → List LefShape
with_shape (Some layer) (Some rect) shapes = shapes ++ record { layer = layer; rect = rect } ∷ []
with_shape _ _ shapes = shapes

-- the shapes with the rectangle of these words on the layer
abbrev pub with_rect : Words → Option (List ℕ) → List LefShape → List LefShape
with_rect values layer shapes = with_shape layer (rect_of values) shapes

-- the layer that was named last, and the shapes
unfoldable pub shapes_set : Statement → Words → Option (List ℕ) → List LefShape → Option (List ℕ) × List LefShape
shapes_set statement.ViaLayer values layer shapes = (name_of values, shapes)
shapes_set statement.ShapeLayer values layer shapes = (name_of values, shapes)
shapes_set statement.Rect values layer shapes = (layer, with_rect values layer shapes)
shapes_set _ values layer shapes = (layer, shapes)

-- the open via, after a statement about its shapes
abbrev pub via_set : Statement → Words → LefVia → Option (List ℕ) → Draft
via_set s values via layer =
    let next = shapes_set s values layer via.shapes in draft.Via (record via { shapes = next.1 }) next.0

-- the open port, after a statement about the shapes of its pin
abbrev pub port_set : Statement → Words → LefMacro → LefPin → Option (List ℕ) → Draft
port_set s values body pin layer =
    let next = shapes_set s values layer pin.shapes in draft.Port body (record pin { shapes = next.1 }) next.0

-- the open obstructions, after a statement about their shapes
abbrev pub obs_set : Statement → Words → LefMacro → Option (List ℕ) → Draft
obs_set s values body layer =
    let next = shapes_set s values layer body.obstructions in draft.Obs (record body { obstructions = next.1 }) next.0

-- what a section in which others open has with one more statement, or the section that the statement opens
abbrev pub open_set : Statement → Words → Draft → Draft
open_set s values draft.Top = opened s values
open_set s values (draft.Macro body) = macro_set s values body
open_set s values (draft.Pin body pin) = pin_set s values body pin
open_set s values d = d

-- what the open section has with one more statement, or the section that the statement opens
unfoldable pub set : Statement → Words → Draft → Draft
set s values draft.Top = opened s values
set s values (draft.Units units) = draft.Units (units_set s values units)
set s values (draft.Layer layer) = draft.Layer (layer_set s values layer)
set s values (draft.Via via layer) = via_set s values via layer
set s values (draft.Site site) = draft.Site (site_set s values site)
set s values (draft.Macro body) = macro_set s values body
set s values (draft.Pin body pin) = pin_set s values body pin
set s values (draft.Port body pin layer) = port_set s values body pin layer
set s values (draft.Obs body layer) = obs_set s values body layer

-- ---- sections

-- the section that is open
abbrev pub section_of : Draft → Section
section_of draft.Top = section.Top
section_of (draft.Units units) = section.Units
section_of (draft.Layer layer) = section.Layer
section_of (draft.Via via layer) = section.Via
section_of (draft.Site site) = section.Site
section_of (draft.Macro body) = section.Macro
section_of (draft.Pin body pin) = section.Pin
section_of (draft.Port body pin layer) = section.Port
section_of (draft.Obs body layer) = section.Obs

-- shapes are due, and no layer was named yet
abbrev pub lacks_layer : Draft → Bool
lacks_layer (draft.Via via layer) = is_none layer
lacks_layer (draft.Port body pin layer) = is_none layer
lacks_layer (draft.Obs body layer) = is_none layer
lacks_layer _ = false

-- END alone closes the section
abbrev pub ends_bare : Draft → Bool
ends_bare (draft.Port body pin layer) = true
ends_bare (draft.Obs body layer) = true
ends_bare _ = false

-- this word behind END closes the section
abbrev pub closes : Draft → List ℕ → Bool
closes draft.Top word = is keyword.Library word
closes (draft.Units units) word = is keyword.Units word
closes (draft.Layer layer) word = bytes_eq word layer.name
closes (draft.Via via layer) word = bytes_eq word via.name
closes (draft.Site site) word = bytes_eq word site.name
closes (draft.Macro body) word = bytes_eq word body.name
closes (draft.Pin body pin) word = bytes_eq word pin.name
closes (draft.Port body pin layer) word = false
closes (draft.Obs body layer) word = false

-- a pin is put last in its macro; a second one of a name is left out
abbrev pub with_pin : LefMacro → LefPin → Closed
with_pin body pin =
    if has_pin pin.name body.terminals then closed.LeftOut (draft.Macro body)
    else closed.Inner (draft.Macro (record body { terminals = body.terminals ++ pin ∷ [] }))

-- what the end of the open section gives
unfoldable pub close : Draft → Closed
close draft.Top = closed.Text
close (draft.Units None) = closed.Nothing
close (draft.Units (Some units)) = closed.Item (item.Units units)
close (draft.Layer layer) = closed.Item (item.Layer layer)
close (draft.Via via layer) = closed.Item (item.Via via)
close (draft.Site site) = closed.Item (item.Site site)
close (draft.Macro body) = closed.Item (item.Macro body)
close (draft.Pin body pin) = with_pin body pin
close (draft.Port body pin layer) = closed.Inner (draft.Pin body pin)
close (draft.Obs body layer) = closed.Inner (draft.Macro body)
