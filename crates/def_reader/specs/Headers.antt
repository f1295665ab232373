-- What the statements outside all sections say.
use Rattle.std.specs.Prelude.{List, [], ℕ, Option, Some, Result, Ok, slice_get}
use Rattle.ld_forms.specs.Names.{per_micron_in}
use Rattle.def_forms.specs.declared.flaw.Flaw.{Flaw}
use Rattle.def_forms.specs.declared.form.Statement.{Statement}
use Rattle.def_forms.specs.declared.form.Statement.TheVariants as statement
use Rattle.def_forms.specs.Quoted.{bus_in, divider_in}
use Rattle.def_tree.specs.declared.tree.DefTree.{DefTree}
use Rattle.def_drafts.specs.Values.{Words, rect_in, said, text_at}

-- the characters of the first word
abbrev pub divider_at : Words → List ℕ
divider_at words = said divider_in [] (slice_get words 0)

abbrev pub bus_at : Words → List ℕ
bus_at words = said bus_in [] (slice_get words 0)

-- the units of the first word
abbrev pub units_at : Words → ℕ
units_at words = said per_micron_in 0 (slice_get words 0)

-- with one more statement; of several the last stands
unfoldable pub stated_in : Statement → Words → DefTree → Result DefTree Flaw
stated_in statement.Divider words tree = Ok (record tree { divider = divider_at words })
stated_in statement.Bus words tree = Ok (record tree { bus = bus_at words })
stated_in statement.Design words tree = Ok (record tree { design = text_at words 0 })
stated_in statement.Units words tree = Ok (record tree { units = units_at words })
stated_in statement.Die words tree = Ok (record tree { die = Some (rect_in words) })
stated_in other words tree = Ok tree
