-- A via that is being read.
use Rattle.std.specs.Prelude.{List, ℕ, Result, Ok}
use Rattle.odb_fields.specs.Reading.{◌>>=◌}
use Rattle.ld_reader.specs.declared.language.Begun.TheVariants as begun
use Rattle.def_forms.specs.declared.flaw.Flaw.{Flaw}
use Rattle.def_forms.specs.declared.form.Statement.{Statement}
use Rattle.def_forms.specs.declared.form.Statement.TheVariants as statement
use Rattle.def_drafts.specs.declared.via.ViaDraft.{ViaDraft}
use Rattle.def_drafts.specs.Options.{Begins, no_options, options_begun, options_set}
use Rattle.def_drafts.specs.Values.{Words}

-- behind its name
abbrev pub new_via : List ℕ → ViaDraft
new_via name = record { name = name; options = no_options }

-- what a word begins
abbrev pub via_begun : ViaDraft → List ℕ → Begins
via_begun v word = options_begun v.options word (begun.Within statement.KeptWord)

-- with one more statement
abbrev pub via_set : ViaDraft → Statement → Words → Result ViaDraft Flaw
via_set v s words = options_set v.options s words >>= λ options. Ok (record v { options = options })

-- its name and its options
abbrev pub via_of : ViaDraft → List ℕ × List ℕ
via_of v = (v.name, v.options.kept)
