-- The options of an element: which words begin what, and what they set.
use Rattle.std.specs.Prelude.{Bool, List, [], ◌∷◌, ℕ, Option, Some, None, Result, Ok, Err, if◌then◌else◌, is_some}
use Rattle.odb_fields.specs.Reading.{◌>>=◌}
use Rattle.ld_forms.specs.Places.{is_semicolon}
use Rattle.ld_reader.specs.declared.language.Begun.{Begun}
use Rattle.ld_reader.specs.declared.language.Begun.TheVariants as begun
use Rattle.def_forms.specs.declared.class.Class.{Class}
use Rattle.def_forms.specs.declared.flaw.Flaw.{Flaw}
use Rattle.def_forms.specs.declared.flaw.Flaw.TheVariants as flaw
use Rattle.def_forms.specs.declared.form.Statement.{Statement}
use Rattle.def_forms.specs.declared.form.Statement.TheVariants as statement
use Rattle.def_forms.specs.declared.keyword.Keyword.TheVariants as keyword
use Rattle.def_forms.specs.Keywords.{is}
use Rattle.def_tree.specs.ByName.{found, put}
use Rattle.def_drafts.specs.declared.options.OptionSpot.{OptionSpot}
use Rattle.def_drafts.specs.declared.options.OptionSpot.TheVariants as spot
use Rattle.def_drafts.specs.declared.options.Options.{Options}
use Rattle.def_drafts.specs.KeptWords.{kept_option, kept_with}
use Rattle.def_drafts.specs.Values.{Words, name_at, text_at}

-- what a word begins
abbrev pub Begins : Type 0
Begins = Begun Class Statement Flaw

-- none yet
abbrev pub no_options : Options
no_options = record { kept = []; props = []; spot = spot.Between }

-- ---- first words

-- `+`, or a word of this statement
abbrev pub plus_or : List ℕ → Statement → Begins
plus_or word other = if is keyword.Plus word then begun.Taken statement.Plus else begun.Within other

-- the end of the element, or this statement
abbrev pub unless_ends : List ℕ → Statement → Statement
unless_ends word other = if is_semicolon word then statement.EndElement else other

-- what a word begins, where it begins `own` behind `+`
abbrev pub begun_at : OptionSpot → List ℕ → Begins → Begins
begun_at spot.Between word own = plus_or word statement.EndElement
begun_at spot.Word word own = own
begun_at spot.Kept word own = plus_or word (unless_ends word statement.KeptWord)
begun_at (spot.Value name) word own = begun.Within statement.PropertyValue
begun_at spot.Values word own = plus_or word (unless_ends word statement.Property)

abbrev pub options_begun : Options → List ℕ → Begins → Begins
options_begun o word own = begun_at o.spot word own

-- ---- what is set

abbrev pub at_spot : OptionSpot → Options → Options
at_spot s o = record o { spot = s }

-- behind an option of the element's own
abbrev pub between : Options → Options
between o = at_spot spot.Between o

-- with a word of an option that is kept: the first one stands behind `+`
abbrev pub kept_text : OptionSpot → List ℕ → List ℕ → Result (List ℕ) Flaw
kept_text spot.Word kept word = kept_option kept word
kept_text other kept word = kept_with kept word

abbrev pub kept_by : OptionSpot → Words → Options → Result Options Flaw
kept_by s words o = kept_text s o.kept (text_at words 0) >>= λ kept. Ok (record o { kept = kept; spot = spot.Kept })

-- with the name of a property, which none may have yet
abbrev pub named : Words → Options → Result Options Flaw
named words o = name_at words 0 >>= λ name. if is_some (found name o.props) then Err flaw.Duplicate else Ok (at_spot (spot.Value name) o)

-- with the value of the property that was named
abbrev pub stated_by : OptionSpot → Words → Options → Result Options Flaw
stated_by (spot.Value name) words o = Ok (record o { props = put name (text_at words 0) o.props; spot = spot.Values })
stated_by other words o = Ok (at_spot spot.Values o)

-- with one more statement
unfoldable pub options_set : Options → Statement → Words → Result Options Flaw
options_set o statement.Plus words = Ok (at_spot spot.Word o)
options_set o statement.KeptWord words = kept_by o.spot words o
options_set o statement.Property words = named words o
options_set o statement.PropertyValue words = stated_by o.spot words o
options_set o other words = Ok o
