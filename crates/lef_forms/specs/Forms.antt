-- The forms of LEF's statements: what begins in which section, and which places follow.
use Rattle.std.specs.Prelude.{List, [], ◌∷◌, ℕ, Option, Some, None, if◌then◌else◌}
use Rattle.ld_forms.specs.declared.passing.Extent.{Extent}
use Rattle.ld_forms.specs.declared.passing.Extent.TheVariants as extent
use Rattle.ld_forms.specs.declared.place.Place.{Place}
use Rattle.ld_forms.specs.declared.place.Place.TheVariants as place
use Rattle.lef_forms.specs.declared.class.Class.{Class}
use Rattle.lef_forms.specs.declared.class.Class.TheVariants as class
use Rattle.lef_forms.specs.declared.form.Form.{Form}
use Rattle.lef_forms.specs.declared.form.Form.TheVariants as form
use Rattle.lef_forms.specs.declared.form.Section.{Section}
use Rattle.lef_forms.specs.declared.form.Section.TheVariants as section
use Rattle.lef_forms.specs.declared.form.Statement.{Statement}
use Rattle.lef_forms.specs.declared.form.Statement.TheVariants as statement
use Rattle.lef_forms.specs.declared.keyword.Keyword.{Keyword}
use Rattle.lef_forms.specs.declared.keyword.Keyword.TheVariants as keyword
use Rattle.lef_forms.specs.declared.word_set.WordSet.TheVariants as set
use Rattle.lef_forms.specs.Keywords.{is}

-- a first word, and what it begins
abbrev pub Row : Type 0
Row = Keyword × Form

-- the word begins this statement, which is taken
abbrev pub taken : Statement → Form
taken s = form.Taken s

-- the word begins a part that is passed over, to this extent
abbrev pub passed : Extent Class → Form
passed e = form.Passed e

-- what begins in which section
abbrev pub rows_of : Section → List Row
-- outside all sections
rows_of section.Top =
    (keyword.Units, taken statement.Units) ∷
    (keyword.Layer, taken statement.Layer) ∷
    (keyword.Via, taken statement.Via) ∷
    (keyword.Site, taken statement.Site) ∷
    (keyword.Macro, taken statement.Macro) ∷
    (keyword.PropertyDefinitions, passed (extent.Words (class.Word keyword.End) (class.Word keyword.PropertyDefinitions))) ∷
    (keyword.Spacing, passed (extent.Words (class.Word keyword.End) (class.Word keyword.Spacing))) ∷
    (keyword.ViaRule, passed (extent.Named (class.Word keyword.End))) ∷
    (keyword.NonDefaultRule, passed (extent.Named (class.Word keyword.End))) ∷
    (keyword.Array, passed (extent.Named (class.Word keyword.End))) ∷
    []
-- UNITS .. END UNITS
rows_of section.Units =
    (keyword.Database, taken statement.Database) ∷
    []
-- LAYER name .. END name
rows_of section.Layer =
    (keyword.Type, taken statement.LayerType) ∷
    (keyword.Direction, taken statement.LayerDirection) ∷
    (keyword.Pitch, taken statement.Pitch) ∷
    (keyword.Width, taken statement.Width) ∷
    (keyword.Spacing, taken statement.Spacing) ∷
    (keyword.AcCurrentDensity, passed (extent.Statements (class.OneOf set.Density) (class.Word keyword.TableEntries))) ∷
    (keyword.DcCurrentDensity, passed (extent.Statements (class.OneOf set.Density) (class.Word keyword.TableEntries))) ∷
    []
-- VIA name .. END name
rows_of section.Via =
    (keyword.Layer, taken statement.ViaLayer) ∷
    (keyword.Rect, taken statement.Rect) ∷
    []
-- SITE name .. END name
rows_of section.Site =
    (keyword.Class, taken statement.SiteClass) ∷
    (keyword.Symmetry, taken statement.Symmetry) ∷
    (keyword.Size, taken statement.Size) ∷
    []
-- MACRO name .. END name
rows_of section.Macro =
    (keyword.Class, taken statement.MacroClass) ∷
    (keyword.Foreign, taken statement.Foreign) ∷
    (keyword.Origin, taken statement.Origin) ∷
    (keyword.Size, taken statement.Size) ∷
    (keyword.Symmetry, taken statement.Symmetry) ∷
    (keyword.Site, taken statement.MacroSite) ∷
    (keyword.Pin, taken statement.Pin) ∷
    (keyword.Obs, taken statement.Obs) ∷
    (keyword.Density, passed (extent.Word (class.Word keyword.End))) ∷
    (keyword.Timing, passed (extent.Words (class.Word keyword.End) (class.Word keyword.Timing))) ∷
    []
-- PIN name .. END name, in a macro
rows_of section.Pin =
    (keyword.Direction, taken statement.PinDirection) ∷
    (keyword.Use, taken statement.PinUse) ∷
    (keyword.Port, taken statement.Port) ∷
    []
-- PORT .. END, in a pin
rows_of section.Port =
    (keyword.Layer, taken statement.ShapeLayer) ∷
    (keyword.Rect, taken statement.Rect) ∷
    []
-- OBS .. END, in a macro
rows_of section.Obs =
    (keyword.Layer, taken statement.ShapeLayer) ∷
    (keyword.Rect, taken statement.Rect) ∷
    []

-- The places behind a statement's first word. Each stands under its form; `..` are words that aren't looked at.
abbrev pub places_of : Statement → List (Place Class)
-- UNITS
places_of statement.Units = []
-- LAYER name
places_of statement.Layer = place.One class.Name ∷ []
-- VIA name [DEFAULT] [GENERATED] [TOPOFSTACKONLY]
places_of statement.Via = place.One class.ViaName ∷ place.Maybe (class.Word keyword.Default) ∷ place.Maybe (class.Word keyword.Generated) ∷ place.Maybe (class.Word keyword.TopOfStackOnly) ∷ []
-- SITE name
places_of statement.Site = place.One class.Name ∷ []
-- MACRO name
places_of statement.Macro = place.One class.Name ∷ []
-- DATABASE MICRONS n ;
places_of statement.Database = place.Key (class.Word keyword.Microns) ∷ place.One class.PerMicron ∷ place.End ∷ []
-- TYPE w ;
places_of statement.LayerType = place.One (class.OneOf set.LayerType) ∷ place.End ∷ []
-- DIRECTION w ;
places_of statement.LayerDirection = place.One (class.OneOf set.LayerDirection) ∷ place.End ∷ []
-- PITCH a [b] ;
places_of statement.Pitch = place.One class.Number ∷ place.Maybe class.Number ∷ place.End ∷ []
-- WIDTH a ;
places_of statement.Width = place.One class.Number ∷ place.End ∷ []
-- SPACING a .. ;
places_of statement.Spacing = place.One class.Number ∷ place.Through ∷ []
-- LAYER name ;
places_of statement.ViaLayer = place.One class.Name ∷ place.End ∷ []
-- LAYER name .. ;
places_of statement.ShapeLayer = place.One class.Name ∷ place.Through ∷ []
-- RECT [MASK n] x y x y ;
places_of statement.Rect = place.Group (class.Word keyword.Mask) 1 ∷ place.One class.Number ∷ place.One class.Number ∷ place.One class.Number ∷ place.One class.Number ∷ place.One class.Number ∷ place.End ∷ []
-- CLASS w ;
places_of statement.SiteClass = place.One (class.OneOf set.SiteClass) ∷ place.End ∷ []
-- SYMMETRY w.. ;
places_of statement.Symmetry = place.One (class.OneOf set.Symmetry) ∷ place.More (class.OneOf set.Symmetry) ∷ place.End ∷ []
-- SIZE w BY h ;
places_of statement.Size = place.One class.Number ∷ place.Key (class.Word keyword.By) ∷ place.One class.Number ∷ place.End ∷ []
-- CLASS w.. ;
places_of statement.MacroClass = place.One (class.OneOf set.Any) ∷ place.More (class.OneOf set.Any) ∷ place.End ∷ []
-- FOREIGN w.. ;
places_of statement.Foreign = place.One (class.OneOf set.Any) ∷ place.More (class.OneOf set.Any) ∷ place.End ∷ []
-- ORIGIN x y ;
places_of statement.Origin = place.One class.Number ∷ place.One class.Number ∷ place.End ∷ []
-- SITE name .. ;
places_of statement.MacroSite = place.One class.Name ∷ place.Through ∷ []
-- PIN name
places_of statement.Pin = place.One class.Name ∷ []
-- OBS
places_of statement.Obs = []
-- DIRECTION OUTPUT [TRISTATE] ; or DIRECTION w ;
places_of statement.PinDirection = place.Group (class.Word keyword.Output) 2 ∷ place.Maybe (class.Word keyword.Tristate) ∷ place.End ∷ place.One (class.OneOf set.PinDirection) ∷ place.End ∷ []
-- USE w ;
places_of statement.PinUse = place.One (class.OneOf set.PinUse) ∷ place.End ∷ []
-- PORT
places_of statement.Port = []
-- END, of a section that it ends alone
places_of statement.EndAlone = []
-- END name
places_of statement.End = place.One class.Every ∷ []

-- what a first word begins by these rows
abbrev pub form_in : List Row → List ℕ → Option Form
form_in [] word = None
form_in (row ∷ rows) word = if is row.0 word then Some row.1 else form_in rows word

-- what a first word begins in a section, where it begins anything but a statement that is passed over
unfoldable pub form_of : Section → List ℕ → Option Form
form_of s word = if is keyword.BeginExt word then Some (passed (extent.Word (class.Word keyword.EndExt))) else form_in (rows_of s) word
