-- An element that is being read.
use Rattle.std.specs.Prelude.{List, ℕ, Result, Ok}
use Rattle.odb_fields.specs.Reading.{◌>>=◌}
use Rattle.def_forms.specs.declared.flaw.Flaw.{Flaw}
use Rattle.def_forms.specs.declared.form.Statement.{Statement}
use Rattle.def_drafts.specs.declared.element.Element.{Element}
use Rattle.def_drafts.specs.declared.element.Element.TheVariants as element
use Rattle.def_drafts.specs.Blockages.{blockage_begun, blockage_set}
use Rattle.def_drafts.specs.Components.{component_begun, component_set}
use Rattle.def_drafts.specs.DefinitionDrafts.{definition_begun, definition_set}
use Rattle.def_drafts.specs.Groups.{group_begun, group_set}
use Rattle.def_drafts.specs.Nets.{net_begun, net_set}
use Rattle.def_drafts.specs.Options.{Begins}
use Rattle.def_drafts.specs.Pins.{pin_begun, pin_set}
use Rattle.def_drafts.specs.Regions.{region_begun, region_set}
use Rattle.def_drafts.specs.Rows.{row_begun, row_set}
use Rattle.def_drafts.specs.Tracks.{track_begun, track_set}
use Rattle.def_drafts.specs.Values.{Words}
use Rattle.def_drafts.specs.Vias.{via_begun, via_set}

-- what a word begins in it
abbrev pub element_begun : Element → List ℕ → Begins
element_begun (element.Definition d) word = definition_begun d word
element_begun (element.Row r) word = row_begun r word
element_begun (element.Track t) word = track_begun t word
element_begun (element.Via v) word = via_begun v word
element_begun (element.Region r) word = region_begun r word
element_begun (element.Component c) word = component_begun c word
element_begun (element.Pin p) word = pin_begun p word
element_begun (element.Blockage b) word = blockage_begun b word
element_begun (element.Net n) word = net_begun n word
element_begun (element.Group g) word = group_begun g word

-- with one more statement
abbrev pub element_set : Element → Statement → Words → Result Element Flaw
element_set (element.Definition d) s words = definition_set d s words >>= λ next. Ok (element.Definition next)
element_set (element.Row r) s words = row_set r s words >>= λ next. Ok (element.Row next)
element_set (element.Track t) s words = track_set t s words >>= λ next. Ok (element.Track next)
element_set (element.Via v) s words = via_set v s words >>= λ next. Ok (element.Via next)
element_set (element.Region r) s words = region_set r s words >>= λ next. Ok (element.Region next)
element_set (element.Component c) s words = component_set c s words >>= λ next. Ok (element.Component next)
element_set (element.Pin p) s words = pin_set p s words >>= λ next. Ok (element.Pin next)
element_set (element.Blockage b) s words = blockage_set b s words >>= λ next. Ok (element.Blockage next)
element_set (element.Net n) s words = net_set n s words >>= λ next. Ok (element.Net next)
element_set (element.Group g) s words = group_set g s words >>= λ next. Ok (element.Group next)
