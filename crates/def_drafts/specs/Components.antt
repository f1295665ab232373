-- A component that is being read.
use Rattle.std.specs.Prelude.{Bool, List, [], ◌∷◌, ℕ, pos, Option, Some, None, Result, Ok, Err, if◌then◌else◌, is_none}
use Rattle.odb_base.specs.declared.codes.orient.Orient.TheVariants as orient
use Rattle.odb_base.specs.declared.codes.place_status.PlaceStatus.{PlaceStatus}
use Rattle.odb_base.specs.declared.codes.place_status.PlaceStatus.TheVariants as status
use Rattle.odb_base.specs.declared.geometry.Placement.{Placement}
use Rattle.odb_fields.specs.Reading.{◌>>=◌}
use Rattle.ld_reader.specs.declared.language.Begun.TheVariants as begun
use Rattle.def_forms.specs.declared.flaw.Flaw.{Flaw}
use Rattle.def_forms.specs.declared.form.Statement.{Statement}
use Rattle.def_forms.specs.declared.form.Statement.TheVariants as statement
use Rattle.def_forms.specs.declared.keyword.Keyword.TheVariants as keyword
use Rattle.def_forms.specs.Keywords.{is}
use Rattle.def_tree.specs.declared.placed.DefComponent.{DefComponent}
use Rattle.def_drafts.specs.declared.component.ComponentDraft.{ComponentDraft}
use Rattle.def_drafts.specs.Options.{Begins, between, no_options, options_begun, options_set}
use Rattle.def_drafts.specs.Values.{Words, coordinate_at, name_at, orientation_at}

-- ---- placements

-- that of something that has no place
abbrev pub unplaced : Placement
unplaced = record { status = status.Unplaced; x = pos 0; y = pos 0; orientation = orient.N }

-- `( x y ) orientation`
abbrev pub placement_in : PlaceStatus → Words → Placement
placement_in s words = record { status = s; x = coordinate_at words 0; y = coordinate_at words 1; orientation = orientation_at words 2 }

-- the word of an option that places something
unfoldable pub place_option : List ℕ → Option Statement
place_option word =
    if is keyword.Placed word then Some (statement.Place status.Placed)
    else if is keyword.Fixed word then Some (statement.Place status.Fixed)
    else if is keyword.Cover word then Some (statement.Place status.Cover)
    else None

-- ---- components

-- behind its name
abbrev pub new_component : List ℕ → ComponentDraft
new_component name = record { name = name; master = None; place = unplaced; options = no_options }

-- the word of an option
abbrev pub unless_placed : Option Statement → List ℕ → Begins
unless_placed (Some s) word = begun.Taken s
unless_placed None word =
    if is keyword.Unplaced word then begun.Taken statement.Unplaced
    else if is keyword.Property word then begun.Taken statement.Property
    else begun.Within statement.KeptWord

unfoldable pub component_option : List ℕ → Begins
component_option word = unless_placed (place_option word) word

-- what a word begins
abbrev pub component_begun : ComponentDraft → List ℕ → Begins
component_begun c word = if is_none c.master then begun.Within statement.Master else options_begun c.options word (component_option word)

-- with one more statement
unfoldable pub component_set : ComponentDraft → Statement → Words → Result ComponentDraft Flaw
component_set c statement.Master words = name_at words 0 >>= λ name. Ok (record c { master = Some name })
component_set c (statement.Place s) words = Ok (record c { place = placement_in s words; options = between c.options })
component_set c statement.Unplaced words = Ok (record c { place = unplaced; options = between c.options })
component_set c other words = options_set c.options other words >>= λ options. Ok (record c { options = options })

-- its name and what it is
abbrev pub with_master : ComponentDraft → Option (List ℕ) → Option (List ℕ × DefComponent)
with_master c (Some master) = Some (c.name, record { master = master; place = c.place; kept = c.options.kept; props = c.options.props })
with_master c None = None

abbrev pub component_of : ComponentDraft → Option (List ℕ × DefComponent)
component_of c = with_master c c.master
