-- A definition of a property that is being read.
use Rattle.std.specs.Prelude.{Bool, List, [], ◌∷◌, ℕ, Option, Some, None, Result, Ok, Err, if◌then◌else◌, is_none, slice_get, unwrap_or}
use Rattle.odb_base.specs.declared.codes.owner.Owner.{Owner}
use Rattle.odb_base.specs.declared.codes.prop_type.PropType.{PropType}
use Rattle.odb_base.specs.declared.codes.prop_type.PropType.TheVariants as prop_type
use Rattle.odb_fields.specs.Reading.{◌>>=◌}
use Rattle.ld_forms.specs.Places.{is_semicolon}
use Rattle.ld_reader.specs.declared.language.Begun.TheVariants as begun
use Rattle.def_forms.specs.declared.flaw.Flaw.{Flaw}
use Rattle.def_forms.specs.declared.form.Statement.{Statement}
use Rattle.def_forms.specs.declared.form.Statement.TheVariants as statement
use Rattle.def_forms.specs.WordSets.{prop_type_in}
use Rattle.def_tree.specs.declared.definitions.DefDefinition.{DefDefinition}
use Rattle.def_drafts.specs.declared.definition.DefinitionDraft.{DefinitionDraft}
use Rattle.def_drafts.specs.KeptWords.{kept_with}
use Rattle.def_drafts.specs.Options.{Begins}
use Rattle.def_drafts.specs.Values.{Words, said, text_at}

-- behind its owner and its name
abbrev pub new_definition : Owner → List ℕ → DefinitionDraft
new_definition owner name = record { owner = owner; name = name; sort = None; rest = [] }

-- what a word begins
abbrev pub definition_begun : DefinitionDraft → List ℕ → Begins
definition_begun d word =
    if is_none d.sort then begun.Within statement.DefinitionType
    else if is_semicolon word then begun.Within statement.EndElement
    else begun.Within statement.DefinitionWord

-- the type that the first word names
abbrev pub type_at : Words → PropType
type_at words = said prop_type_in prop_type.Integer (slice_get words 0)

-- with one more statement
abbrev pub definition_set : DefinitionDraft → Statement → Words → Result DefinitionDraft Flaw
definition_set d statement.DefinitionType words = Ok (record d { sort = Some (type_at words) })
definition_set d statement.DefinitionWord words = kept_with d.rest (text_at words 0) >>= λ rest. Ok (record d { rest = rest })
definition_set d other words = Ok d

-- its owner, its name and what it is
abbrev pub definition_of : DefinitionDraft → Owner × List ℕ × DefDefinition
definition_of d = (d.owner, d.name, record { sort = unwrap_or d.sort prop_type.Integer; rest = d.rest })
