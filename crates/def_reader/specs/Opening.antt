-- What words begin outside elements, and which elements begin.
use Rattle.std.specs.Prelude.{Bool, List, ℕ, Option, Some, None, Result, Ok, Err, if◌then◌else◌, find, is_some}
use Rattle.odb_base.specs.declared.codes.owner.Owner.{Owner}
use Rattle.odb_fields.specs.Reading.{◌>>=◌}
use Rattle.ld_forms.specs.declared.passing.Extent.{Extent}
use Rattle.ld_forms.specs.declared.passing.Extent.TheVariants as extent
use Rattle.ld_forms.specs.Places.{is_semicolon}
use Rattle.ld_reader.specs.declared.language.Begun.TheVariants as begun
use Rattle.def_forms.specs.declared.class.Class.{Class}
use Rattle.def_forms.specs.declared.class.Class.TheVariants as class
use Rattle.def_forms.specs.declared.flaw.Flaw.{Flaw}
use Rattle.def_forms.specs.declared.flaw.Flaw.TheVariants as flaw
use Rattle.def_forms.specs.declared.form.Statement.{Statement}
use Rattle.def_forms.specs.declared.form.Statement.TheVariants as statement
use Rattle.def_forms.specs.declared.keyword.Keyword.{Keyword}
use Rattle.def_forms.specs.declared.keyword.Keyword.TheVariants as keyword
use Rattle.def_forms.specs.declared.section.Section.{Section}
use Rattle.def_forms.specs.declared.section.Section.TheVariants as section
use Rattle.def_forms.specs.Keywords.{is}
use Rattle.def_forms.specs.WordSets.{owner_in}
use Rattle.def_tree.specs.declared.tree.DefTree.{DefTree}
use Rattle.def_tree.specs.ByName.{found}
use Rattle.def_tree.specs.Definitions.{definitions_of}
use Rattle.def_drafts.specs.declared.element.Element.{Element}
use Rattle.def_drafts.specs.declared.element.Element.TheVariants as element
use Rattle.def_drafts.specs.Blockages.{new_blockage}
use Rattle.def_drafts.specs.Components.{new_component}
use Rattle.def_drafts.specs.DefinitionDrafts.{new_definition}
use Rattle.def_drafts.specs.Groups.{new_group}
use Rattle.def_drafts.specs.Options.{Begins}
use Rattle.def_drafts.specs.Pins.{new_pin}
use Rattle.def_drafts.specs.Regions.{new_region}
use Rattle.def_drafts.specs.Rows.{new_row}
use Rattle.def_drafts.specs.Tracks.{track_in}
use Rattle.def_drafts.specs.Values.{Words, name_at}
use Rattle.def_drafts.specs.Vias.{new_via}

-- ---- outside all sections

-- the section that a word begins
unfoldable pub section_at : List ℕ → Option Section
section_at word =
    if is keyword.PropertyDefinitions word then Some section.Definitions
    else if is keyword.Vias word then Some section.Vias
    else if is keyword.Regions word then Some section.Regions
    else if is keyword.Components word then Some section.Components
    else if is keyword.Pins word then Some section.Pins
    else if is keyword.Blockages word then Some section.Blockages
    else if is keyword.SpecialNets word then Some section.SpecialNets
    else if is keyword.Nets word then Some section.Nets
    else if is keyword.Groups word then Some section.Groups
    else None

-- the statement that a word begins
unfoldable pub taken_at : List ℕ → Option Statement
taken_at word =
    if is keyword.Row word then Some statement.Row
    else if is keyword.Tracks word then Some statement.Tracks
    else if is keyword.End word then Some statement.End
    else if is keyword.Version word then Some statement.Version
    else if is keyword.DividerChar word then Some statement.Divider
    else if is keyword.BusBitChars word then Some statement.Bus
    else if is keyword.Design word then Some statement.Design
    else if is keyword.Units word then Some statement.Units
    else if is keyword.DieArea word then Some statement.Die
    else None

-- through END and this word
abbrev pub through : Keyword → Extent Class
through k = extent.Words (class.Word keyword.End) (class.Word k)

-- how far any other part is passed over
unfoldable pub passed_at : List ℕ → Extent Class
passed_at word =
    if is keyword.BeginExt word then extent.Word (class.Word keyword.EndExt)
    else if is keyword.Styles word then through keyword.Styles
    else if is keyword.NonDefaultRules word then through keyword.NonDefaultRules
    else if is keyword.Slots word then through keyword.Slots
    else if is keyword.Fills word then through keyword.Fills
    else if is keyword.ScanChains word then through keyword.ScanChains
    else if is keyword.PinProperties word then through keyword.PinProperties
    else extent.Statement

-- what is taken, or passed over
abbrev pub taken_or_passed : Option Statement → List ℕ → Begins
taken_or_passed (Some s) word = begun.Taken s
taken_or_passed None word = begun.Passed (passed_at word)

abbrev pub section_or : Option Section → List ℕ → Begins
section_or (Some s) word = begun.Taken (statement.Header s)
section_or None word = taken_or_passed (taken_at word) word

-- what a word begins
unfoldable pub top_begun : List ℕ → Begins
top_begun word = if is_semicolon word then begun.Bad flaw.Unexpected else section_or (section_at word) word

-- ---- in a section, between its elements

-- a definition; one of another owner is passed over
abbrev pub definition_by : Option Owner → Begins
definition_by (Some owner) = begun.Taken (statement.Definition owner)
definition_by None = begun.Passed extent.Statement

abbrev pub definition_begun : List ℕ → Begins
definition_begun word = if is_semicolon word then begun.Bad flaw.Unexpected else definition_by (owner_in word)

-- an element of a section with a count
abbrev pub dash_begun : Section → List ℕ → Begins
dash_begun s word = if is keyword.Dash word then begun.Taken (statement.Element s) else begun.Bad flaw.Unexpected

abbrev pub element_or_definition : Section → List ℕ → Begins
element_or_definition section.Definitions word = definition_begun word
element_or_definition other word = dash_begun other word

unfoldable pub section_begun : Section → List ℕ → Begins
section_begun s word = if is keyword.End word then begun.Taken statement.End else element_or_definition s word

-- ---- elements that begin

-- an element of such a section has the name
unfoldable pub stands_in : DefTree → Statement → List ℕ → Bool
stands_in tree (statement.Definition owner) name = is_some (found name (definitions_of owner tree.definitions))
stands_in tree (statement.Element section.Vias) name = is_some (found name tree.vias)
stands_in tree (statement.Element section.Regions) name = is_some (found name tree.regions)
stands_in tree (statement.Element section.Components) name = is_some (found name tree.components)
stands_in tree (statement.Element section.Pins) name = is_some (found name tree.pins)
stands_in tree (statement.Element section.Groups) name = is_some (found name tree.groups)
stands_in tree other name = is_some (found name tree.rows)

-- the element of a name
abbrev pub of_name : Statement → List ℕ → Element
of_name (statement.Definition owner) name = element.Definition (new_definition owner name)
of_name (statement.Element section.Vias) name = element.Via (new_via name)
of_name (statement.Element section.Regions) name = element.Region (new_region name)
of_name (statement.Element section.Components) name = element.Component (new_component name)
of_name (statement.Element section.Pins) name = element.Pin (new_pin name)
of_name (statement.Element section.Groups) name = element.Group (new_group name)
of_name other name = element.Row (new_row name)

-- the element of a name that none may have
abbrev pub named_in : DefTree → Statement → List ℕ → Result Element Flaw
named_in tree s name = if stands_in tree s name then Err flaw.Duplicate else Ok (of_name s name)

-- the element that a statement begins
unfoldable pub element_in : DefTree → Statement → Words → Result Element Flaw
element_in tree statement.Tracks words = Ok (element.Track (track_in words))
element_in tree (statement.Element section.Blockages) words = Ok (element.Blockage new_blockage)
element_in tree other words = name_at words 0 >>= λ name. named_in tree other name
