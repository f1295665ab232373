-- The lines of the one text of a tree, each as the words on it. Kept options and property values stand as they are, with
-- the spaces that they have.
use Rattle.std.specs.Prelude.{◌++◌, ◌==◌, ◌||◌, Bool, true, false, List, [], ◌∷◌, ℕ, ℤ, Option, Some, None, if◌then◌else◌, codes, decimal, filter, length, map, not}
use Rattle.std.specs.Fmt.{signed_decimal}
use Rattle.std.specs.List.{flat_map}
use Rattle.odb_base.specs.declared.codes.direction.Direction.{Direction}
use Rattle.odb_base.specs.declared.codes.direction.Direction.TheVariants as direction
use Rattle.odb_base.specs.declared.codes.owner.Owner.{Owner}
use Rattle.odb_base.specs.declared.codes.owner.Owner.TheVariants as owner
use Rattle.odb_base.specs.declared.codes.place_status.PlaceStatus.{PlaceStatus}
use Rattle.odb_base.specs.declared.codes.place_status.PlaceStatus.TheVariants as status
use Rattle.odb_base.specs.declared.codes.region_type.RegionType.{RegionType}
use Rattle.odb_base.specs.declared.codes.region_type.RegionType.TheVariants as region
use Rattle.odb_base.specs.declared.codes.row_form.RowForm.{RowForm}
use Rattle.odb_base.specs.declared.codes.row_form.RowForm.TheVariants as form
use Rattle.odb_base.specs.declared.codes.usage.Usage.{Usage}
use Rattle.odb_base.specs.declared.codes.usage.Usage.TheVariants as usage
use Rattle.odb_base.specs.declared.geometry.Placement.{Placement}
use Rattle.odb_base.specs.declared.geometry.Rect.{Rect}
use Rattle.odb_base.specs.Direction.{direction_word}
use Rattle.odb_base.specs.Orient.{orient_word}
use Rattle.odb_base.specs.Owner.{owner_word, owners}
use Rattle.odb_base.specs.PlaceStatus.{place_status_word}
use Rattle.odb_base.specs.PropType.{prop_type_word}
use Rattle.odb_base.specs.RegionType.{region_type_word}
use Rattle.odb_base.specs.TrackAxis.{track_axis_word}
use Rattle.odb_base.specs.Usage.{usage_word}
use Rattle.odb_base.specs.WireStatus.{wire_status_word}
use Rattle.wires.specs.PathSpelling.{paths_words}
use Rattle.def_tree.specs.declared.connections.Connections.{Connections}
use Rattle.def_tree.specs.declared.definitions.DefDefinition.{DefDefinition}
use Rattle.def_tree.specs.declared.floorplan.DefBlockage.{DefBlockage}
use Rattle.def_tree.specs.declared.floorplan.DefRegion.{DefRegion}
use Rattle.def_tree.specs.declared.floorplan.DefRow.{DefRow}
use Rattle.def_tree.specs.declared.floorplan.DefTrack.{DefTrack}
use Rattle.def_tree.specs.declared.nets.DefNet.{DefNet}
use Rattle.def_tree.specs.declared.nets.DefWire.{DefWire}
use Rattle.def_tree.specs.declared.pins.DefBox.{DefBox}
use Rattle.def_tree.specs.declared.pins.DefPin.{DefPin}
use Rattle.def_tree.specs.declared.pins.DefPort.{DefPort}
use Rattle.def_tree.specs.declared.placed.DefComponent.{DefComponent}
use Rattle.def_tree.specs.declared.placed.DefGroup.{DefGroup}
use Rattle.def_tree.specs.declared.tree.DefTree.{DefTree}
use Rattle.def_tree.specs.Definitions.{definitions_of}

-- what stands between two spaces of a line
abbrev pub Word : Type 0
Word = List ℕ

abbrev pub Line : Type 0
Line = List Word

-- a name, and what has it
abbrev pub Named : Type 0 → Type 0
Named T = Word × T

-- ---- parts of lines

-- a line that `;` ends
abbrev pub statement : Line → Line
statement words = words ++ codes ";" ∷ []

-- an option: its word, and what stands behind it
abbrev pub option : Word → Line → Line
option word words = codes "+" ∷ word ∷ words

-- a point
abbrev pub point : ℤ → ℤ → Line
point x y = codes "(" ∷ signed_decimal x ∷ signed_decimal y ∷ codes ")" ∷ []

-- a rectangle, by its lower left corner and its upper right one
abbrev pub rect : Rect → Line
rect r = point r.xl r.yl ++ point r.xh r.yh

-- words that are kept, where there are any
abbrev pub kept : List ℕ → Line
kept text = if length text == 0 then [] else text ∷ []

-- one option for each property
abbrev pub props : List (Named (List ℕ)) → Line
props values = flat_map (λ p. option (codes "PROPERTY") (p.0 ∷ p.1 ∷ [])) values

-- a name behind an option's word, where there is one
abbrev pub named_option : Word → Option Word → Line
named_option word None = []
named_option word (Some name) = option word (name ∷ [])

-- where something stands
abbrev pub at_place : Placement → Line
at_place p = option (place_status_word p.status) (point p.x p.y ++ orient_word p.orientation ∷ [])

-- a placement of a component
abbrev pub placement_by : PlaceStatus → Placement → Line
placement_by status.Unplaced p = option (codes "UNPLACED") []
placement_by other p = at_place p

-- a placement of a port, unless it is unplaced
abbrev pub port_placement_by : PlaceStatus → Placement → Line
port_placement_by status.Unplaced p = []
port_placement_by other p = at_place p

-- a use, unless none is stated
abbrev pub use_option : Usage → Line
use_option usage.None = []
use_option other = option (codes "USE") (usage_word other ∷ [])

-- a direction, unless none is stated
abbrev pub direction_option : Direction → Line
direction_option direction.None = []
direction_option other = option (codes "DIRECTION") (direction_word other ∷ [])

-- a section: how many elements it has, the elements, and its end; none where there are no elements
abbrev pub section : Word → List Line → List Line
section word [] = []
section word (line ∷ lines) =
    (word ∷ decimal (length (line ∷ lines)) ∷ codes ";" ∷ []) ∷ ((line ∷ lines) ++ (codes "END" ∷ word ∷ []) ∷ [])

-- an element of a section
abbrev pub element : Line → Line
element words = statement (codes "-" ∷ words)

-- ---- the header

-- the design, where it has a name
abbrev pub design_lines : List ℕ → List Line
design_lines name = if length name == 0 then [] else statement (codes "DESIGN" ∷ name ∷ []) ∷ []

-- characters between quotes
abbrev pub quoted : List ℕ → Word
quoted chars = codes "\"" ++ (chars ++ codes "\"")

-- the units, where they are stated
abbrev pub unit_lines : ℕ → List Line
unit_lines units = if units == 0 then [] else statement (codes "UNITS" ∷ codes "DISTANCE" ∷ codes "MICRONS" ∷ decimal units ∷ []) ∷ []

-- the area of the die, where it is stated
abbrev pub die_lines : Option Rect → List Line
die_lines None = []
die_lines (Some r) = statement (codes "DIEAREA" ∷ rect r) ∷ []

-- a definition of a property
abbrev pub definition_line : Owner → Named DefDefinition → Line
definition_line o d = statement (owner_word o ∷ d.0 ∷ prop_type_word d.1.sort ∷ kept d.1.rest)

-- a section without a count
abbrev pub uncounted : Word → List Line → List Line
uncounted word [] = []
uncounted word (line ∷ lines) = (word ∷ []) ∷ ((line ∷ lines) ++ (codes "END" ∷ word ∷ []) ∷ [])

abbrev pub definition_lines : DefTree → List Line
definition_lines tree =
    uncounted (codes "PROPERTYDEFINITIONS") (flat_map (λ o. map (definition_line o) (definitions_of o tree.definitions)) owners)

-- ---- rows, tracks, vias, regions, components

-- how often a row has its site
abbrev pub count_words : DefRow → Line
count_words r = codes "DO" ∷ decimal r.nx ∷ codes "BY" ∷ decimal r.ny ∷ []

abbrev pub form_words : RowForm → DefRow → Line
form_words form.Bare r = []
form_words form.Do r = count_words r
form_words form.DoStep r = count_words r ++ codes "STEP" ∷ signed_decimal r.sx ∷ signed_decimal r.sy ∷ []

abbrev pub row_line : Named DefRow → Line
row_line r =
    statement (codes "ROW" ∷ r.0 ∷ r.1.site ∷ signed_decimal r.1.x ∷ signed_decimal r.1.y ∷ orient_word r.1.orientation
    ∷ (form_words r.1.form r.1 ++ props r.1.props))

abbrev pub layer_words : List Word → Line
layer_words [] = []
layer_words (layer ∷ layers) = codes "LAYER" ∷ layer ∷ layers

abbrev pub track_line : DefTrack → Line
track_line t =
    statement (codes "TRACKS" ∷ track_axis_word t.axis ∷ signed_decimal t.start ∷ codes "DO" ∷ decimal t.count
    ∷ codes "STEP" ∷ signed_decimal t.step ∷ layer_words t.layers)

abbrev pub via_line : Named (List ℕ) → Line
via_line v = element (v.0 ∷ kept v.1)

-- the type of a region, where it has one
abbrev pub type_option : RegionType → Line
type_option region.None = []
type_option other = option (codes "TYPE") (region_type_word other ∷ [])

abbrev pub region_line : Named DefRegion → Line
region_line r = element (r.0 ∷ (flat_map rect r.1.rects ++ (kept r.1.kept ++ (type_option r.1.sort ++ props r.1.props))))

abbrev pub component_line : Named DefComponent → Line
component_line c = element (c.0 ∷ c.1.master ∷ (kept c.1.kept ++ (placement_by c.1.place.status c.1.place ++ props c.1.props)))

-- ---- pins and blockages

abbrev pub box_option : DefBox → Line
box_option b = option (codes "LAYER") (b.layer ∷ rect b.rect)

abbrev pub port_words : DefPort → Line
port_words p = option (codes "PORT") [] ++ (kept p.kept ++ (flat_map box_option p.boxes ++ port_placement_by p.place.status p.place))

abbrev pub pin_line : Named DefPin → Line
pin_line p =
    element (p.0 ∷ (named_option (codes "NET") p.1.net ++ (direction_option p.1.direction ++ (use_option p.1.usage
    ++ (kept p.1.kept ++ flat_map port_words p.1.ports)))))

abbrev pub blocked_words : Option Word → Line
blocked_words None = codes "PLACEMENT" ∷ []
blocked_words (Some layer) = codes "LAYER" ∷ layer ∷ []

abbrev pub blockage_line : DefBlockage → Line
blockage_line b = element (blocked_words b.layer ++ (kept b.kept ++ flat_map (λ r. codes "RECT" ∷ rect r) b.rects))

-- ---- nets

abbrev pub connection : Word → Word → Line
connection first second = codes "(" ∷ first ∷ second ∷ codes ")" ∷ []

abbrev pub connection_words : Connections → Line
connection_words c =
    flat_map (λ p. connection (codes "PIN") p.0) c.pins
    ++ (flat_map (λ t. connection t.0 t.1) c.terminals ++ flat_map (λ t. connection (codes "*") t.0) c.every)

abbrev pub wire_words : Bool → DefWire → Line
wire_words special w = option (wire_status_word w.status) (paths_words special w.paths)

-- what a net has in NETS alone
abbrev pub plain_words : DefNet → Line
plain_words n = kept n.kept ++ (flat_map (wire_words false) n.wires ++ props n.props)

-- what a net has in SPECIALNETS alone
abbrev pub special_words : DefNet → Line
special_words n = kept n.special_kept ++ (flat_map (wire_words true) n.special_wires ++ props n.special_props)

-- what a net has in the one of both that it stands in first
abbrev pub joined_words : DefNet → Line
joined_words n = connection_words n.connections ++ use_option n.usage

-- the lines of SPECIALNETS: one for each special net
abbrev pub special_net_line : Named DefNet → List Line
special_net_line n = if n.1.special then element (n.0 ∷ (joined_words n.1 ++ special_words n.1)) ∷ [] else []

-- the lines of NETS: one for each net that isn't special, and for each special one that has something in NETS
abbrev pub net_line : Named DefNet → List Line
net_line n =
    if not n.1.special then element (n.0 ∷ (joined_words n.1 ++ plain_words n.1)) ∷ []
    else if length (plain_words n.1) == 0 then []
    else element (n.0 ∷ plain_words n.1) ∷ []

-- ---- groups

abbrev pub group_line : Named DefGroup → Line
group_line g =
    element (g.0 ∷ (map (λ m. m.0) g.1.members ++ (kept g.1.kept ++ (named_option (codes "REGION") g.1.region ++ props g.1.props))))

-- ---- the whole

unfoldable pub lines_of : DefTree → List Line
lines_of tree =
    statement (codes "VERSION" ∷ codes "5.8" ∷ []) ∷ statement (codes "DIVIDERCHAR" ∷ quoted tree.divider ∷ [])
    ∷ statement (codes "BUSBITCHARS" ∷ quoted tree.bus ∷ [])
    ∷ (design_lines tree.design ++ (unit_lines tree.units ++ (definition_lines tree ++ (die_lines tree.die
    ++ (map row_line tree.rows ++ (map track_line tree.tracks
    ++ (section (codes "VIAS") (map via_line tree.vias) ++ (section (codes "REGIONS") (map region_line tree.regions)
    ++ (section (codes "COMPONENTS") (map component_line tree.components) ++ (section (codes "PINS") (map pin_line tree.pins)
    ++ (section (codes "BLOCKAGES") (map blockage_line tree.blockages)
    ++ (section (codes "SPECIALNETS") (flat_map special_net_line tree.nets) ++ (section (codes "NETS") (flat_map net_line tree.nets)
    ++ (section (codes "GROUPS") (map group_line tree.groups) ++ (codes "END" ∷ codes "DESIGN" ∷ []) ∷ []))))))))))))))
