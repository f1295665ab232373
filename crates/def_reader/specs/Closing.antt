-- Elements that have ended.
use Rattle.std.specs.Prelude.{◌++◌, List, [], ◌∷◌, ℕ, Option, Some, None}
use Rattle.def_tree.specs.declared.tree.DefTree.{DefTree}
use Rattle.def_tree.specs.declared.nets.DefNet.{DefNet}
use Rattle.def_tree.specs.declared.pins.DefPin.{DefPin}
use Rattle.def_tree.specs.ByName.{found, put, without}
use Rattle.def_tree.specs.Definitions.{with_definition}
use Rattle.def_tree.specs.Nets.{empty_net}
use Rattle.def_drafts.specs.declared.definition.DefinitionDraft.{DefinitionDraft}
use Rattle.def_drafts.specs.declared.element.Element.{Element}
use Rattle.def_drafts.specs.declared.element.Element.TheVariants as element
use Rattle.def_drafts.specs.Blockages.{blockage_of}
use Rattle.def_drafts.specs.Components.{component_of}
use Rattle.def_drafts.specs.DefinitionDrafts.{definition_of}
use Rattle.def_drafts.specs.Groups.{group_of}
use Rattle.def_drafts.specs.Nets.{net_of}
use Rattle.def_drafts.specs.Pins.{pin_of}
use Rattle.def_drafts.specs.Regions.{region_of}
use Rattle.def_drafts.specs.Rows.{row_of}
use Rattle.def_drafts.specs.Vias.{via_of}

-- with a thing under its name, where there is one
abbrev pub entered : {T : Type 0} → Option (List ℕ × T) → List (List ℕ × T) → List (List ℕ × T)
entered (Some p) things = put p.0 p.1 things
entered None things = things

-- with a definition
abbrev pub with_definition_draft : DefinitionDraft → DefTree → DefTree
with_definition_draft d tree =
    record tree { definitions = with_definition (definition_of d).0 (definition_of d).1 (definition_of d).2 tree.definitions }

-- a net, or before anything is said of it an empty one
abbrev pub net_or_empty : Option DefNet → DefNet
net_or_empty (Some n) = n
net_or_empty None = empty_net

-- nets with a pin joined to one
abbrev pub joined_to : List ℕ → List ℕ → List (List ℕ × DefNet) → List (List ℕ × DefNet)
joined_to net pin nets =
    put net (record (net_or_empty (found net nets)) {
      connections = record (net_or_empty (found net nets)).connections { pins = put pin tt (net_or_empty (found net nets)).connections.pins };
    }) (without net nets)

abbrev pub joined_by : List ℕ → Option (List ℕ) → List (List ℕ × DefNet) → List (List ℕ × DefNet)
joined_by pin (Some net) nets = joined_to net pin nets
joined_by pin None nets = nets

-- with a pin, which is joined to its net
abbrev pub with_pin : List ℕ × DefPin → DefTree → DefTree
with_pin p tree = record tree { pins = put p.0 p.1 tree.pins; nets = joined_by p.0 p.1.net tree.nets }

-- how many parts of an element were passed over
abbrev pub passed_in : Element → ℕ
passed_in (element.Net n) = n.passed
passed_in other = 0

-- with an element
unfoldable pub with_element : Element → DefTree → DefTree
with_element (element.Definition d) tree = with_definition_draft d tree
with_element (element.Row r) tree = record tree { rows = entered (row_of r) tree.rows }
with_element (element.Track t) tree = record tree { tracks = tree.tracks ++ t.track ∷ [] }
with_element (element.Via v) tree = record tree { vias = entered (Some (via_of v)) tree.vias }
with_element (element.Region r) tree = record tree { regions = entered (Some (region_of r)) tree.regions }
with_element (element.Component c) tree = record tree { components = entered (component_of c) tree.components }
with_element (element.Pin p) tree = with_pin (pin_of p) tree
with_element (element.Net n) tree = record tree { nets = entered (Some (net_of n)) tree.nets }
with_element (element.Blockage b) tree = record tree { blockages = tree.blockages ++ blockage_of b ∷ [] }
with_element (element.Group g) tree = record tree { groups = entered (Some (group_of g)) tree.groups }
