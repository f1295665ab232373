-- The forms of DEF's statements, and of parts of them: which places follow.
use Rattle.std.specs.Prelude.{Bool, true, false, List, [], ◌∷◌}
use Rattle.ld_forms.specs.declared.place.Place.{Place}
use Rattle.ld_forms.specs.declared.place.Place.TheVariants as place
use Rattle.def_forms.specs.declared.class.Class.{Class}
use Rattle.def_forms.specs.declared.class.Class.TheVariants as class
use Rattle.def_forms.specs.declared.form.Statement.{Statement}
use Rattle.def_forms.specs.declared.form.Statement.TheVariants as statement
use Rattle.def_forms.specs.declared.keyword.Keyword.TheVariants as keyword
use Rattle.def_forms.specs.declared.section.Section.{Section}
use Rattle.def_forms.specs.declared.section.Section.TheVariants as section
use Rattle.def_forms.specs.declared.word_set.WordSet.TheVariants as set

-- what stands behind the `-` of an element
abbrev pub element_places : Section → List (Place Class)
element_places section.Vias = place.One class.ViaName ∷ []
element_places section.SpecialNets = place.One class.NetName ∷ []
element_places section.Nets = place.One class.NetName ∷ []
element_places section.Blockages = []
element_places other = place.One class.Name ∷ []

-- The places of a statement behind its first word, or with it where it stands in one of them. Each stands under its form.
abbrev pub places_of : Statement → List (Place Class)
-- VERSION w ;
places_of statement.Version = place.One class.Any ∷ place.End ∷ []
-- DIVIDERCHAR "c" ;
places_of statement.Divider = place.One class.Divider ∷ place.End ∷ []
-- BUSBITCHARS "cc" ;
places_of statement.Bus = place.One class.Bus ∷ place.End ∷ []
-- DESIGN name ;
places_of statement.Design = place.One class.Name ∷ place.End ∷ []
-- UNITS DISTANCE MICRONS n ;
places_of statement.Units = place.Key (class.Word keyword.Distance) ∷ place.Key (class.Word keyword.Microns) ∷ place.One class.PerMicron ∷ place.End ∷ []
-- DIEAREA ( x y ) ( x y ) ;
places_of statement.Die = place.Key (class.Word keyword.Open) ∷ place.One class.Coordinate ∷ place.One class.Coordinate ∷ place.Key (class.Word keyword.Close) ∷ place.Key (class.Word keyword.Open) ∷ place.One class.Coordinate ∷ place.One class.Coordinate ∷ place.Key (class.Word keyword.Close) ∷ place.Maybe class.ThirdPoint ∷ place.End ∷ []
-- the word of a section
places_of (statement.Header x) = []
-- n ; behind the word of a section
places_of statement.Count = place.One class.Number ∷ place.End ∷ []
-- END w
places_of statement.End = place.One class.Every ∷ []
-- ROW name
places_of statement.Row = place.One class.Name ∷ []
-- site x y orientation [DO nx BY ny [STEP sx sy]] behind the name of a row
places_of statement.RowSites = place.One class.Name ∷ place.One class.Coordinate ∷ place.One class.Coordinate ∷ place.One (class.OneOf set.Orientation) ∷ place.Group (class.Word keyword.Do) 6 ∷ place.One class.Count ∷ place.Key (class.Word keyword.By) ∷ place.One class.Count ∷ place.Group (class.Word keyword.Step) 2 ∷ place.One class.Coordinate ∷ place.One class.Coordinate ∷ []
-- TRACKS axis start DO n STEP s
places_of statement.Tracks = place.One (class.OneOf set.Axis) ∷ place.One class.Coordinate ∷ place.Key (class.Word keyword.Do) ∷ place.One class.Count ∷ place.Key (class.Word keyword.Step) ∷ place.One class.Step ∷ []
-- name of a layer, behind LAYER of tracks
places_of statement.TrackLayer = place.One class.Name ∷ []
-- OWNER name of a definition
places_of (statement.Definition x) = place.One class.Name ∷ []
-- type behind the name of a definition
places_of statement.DefinitionType = place.One (class.OneOf set.PropType) ∷ []
-- a further word of a definition
places_of statement.DefinitionWord = place.One class.Any ∷ []
-- `- name`, or `-` of a blockage
places_of (statement.Element s) = element_places s
-- ;
places_of statement.EndElement = place.End ∷ []
-- what can't stand where it does
places_of statement.Stray = place.Key class.Nothing ∷ []
-- +
places_of statement.Plus = []
-- a word of an option that is kept
places_of statement.KeptWord = place.One class.Loose ∷ []
-- name of a property, behind PROPERTY or a value
places_of statement.Property = place.One class.Name ∷ []
-- value behind the name of a property
places_of statement.PropertyValue = place.One class.Loose ∷ []
-- name of the master, behind that of a component
places_of statement.Master = place.One class.Name ∷ []
-- ( x y ) orientation behind PLACED, FIXED or COVER
places_of (statement.Place x) = place.Key (class.Word keyword.Open) ∷ place.One class.Coordinate ∷ place.One class.Coordinate ∷ place.Key (class.Word keyword.Close) ∷ place.One (class.OneOf set.Orientation) ∷ []
-- UNPLACED
places_of statement.Unplaced = []
-- ( x y ) ( x y ) of a region, or behind the layer of a port
places_of statement.Rect = place.Key (class.Word keyword.Open) ∷ place.One class.Coordinate ∷ place.One class.Coordinate ∷ place.Key (class.Word keyword.Close) ∷ place.Key (class.Word keyword.Open) ∷ place.One class.Coordinate ∷ place.One class.Coordinate ∷ place.Key (class.Word keyword.Close) ∷ []
-- ( x y ) ( x y ) behind RECT of a blockage
places_of statement.BlockedRect = place.Key (class.BlockedWord keyword.Open) ∷ place.One class.BlockedCoordinate ∷ place.One class.BlockedCoordinate ∷ place.Key (class.BlockedWord keyword.Close) ∷ place.Key (class.BlockedWord keyword.Open) ∷ place.One class.BlockedCoordinate ∷ place.One class.BlockedCoordinate ∷ place.Key (class.BlockedWord keyword.Close) ∷ []
-- type behind TYPE
places_of statement.RegionType = place.One (class.OneOf set.RegionType) ∷ []
-- name behind NET of a pin
places_of statement.Net = place.One class.Name ∷ []
-- direction behind DIRECTION
places_of statement.Direction = place.One (class.OneOf set.Direction) ∷ []
-- use behind USE
places_of statement.Use = place.One (class.OneOf set.Use) ∷ []
-- PORT
places_of statement.Port = []
-- LAYER of a pin
places_of statement.Layer = []
-- the word behind LAYER of a pin
places_of statement.LayerWord = place.One class.Every ∷ []
-- name behind LAYER of a blockage
places_of statement.BlockedLayer = place.One class.Name ∷ []
-- PLACEMENT of a blockage
places_of statement.BlockedPlacement = []
-- name of a component of a group
places_of statement.Member = place.One class.Member ∷ []
-- name behind REGION
places_of statement.GroupRegion = place.One class.Name ∷ []
-- ROUTED, FIXED or COVER of a net
places_of (statement.Wire s) = []
-- a word of the paths of a wire
places_of statement.PathWord = place.One class.Every ∷ []
-- ( component terminal [+ SYNTHESIZED] ), where the first name may be PIN
places_of (statement.Connection true) = place.Key (class.Word keyword.Open) ∷ place.One (class.Joined true) ∷ place.One class.Name ∷ place.Group (class.Word keyword.Plus) 1 ∷ place.Key (class.Word keyword.Synthesized) ∷ place.Key (class.Word keyword.Close) ∷ []
-- ( component terminal [+ SYNTHESIZED] ), where the first name may be PIN
places_of (statement.Connection false) = place.Key (class.Word keyword.Open) ∷ place.One (class.Joined false) ∷ place.One class.Name ∷ place.Group (class.Word keyword.Plus) 1 ∷ place.Key (class.Word keyword.Synthesized) ∷ place.Key (class.Word keyword.Close) ∷ []
