-- The masters of a library, by id and by name.
use Rattle.std.specs.Prelude.{List, [], ℕ, Option}
use Rattle.std.specs.Option.{option_map_or}
use Rattle.named_list.specs.Naming.{AreNamesDistinct, at_id, id_named}
use Rattle.library.specs.declared.master.Master.{Master}
use Rattle.library.specs.declared.mterm.MTerm.{MTerm}

-- the master of an id, which is its place from 1
abbrev pub master_at : List Master → ℕ → Option Master
master_at masters id = at_id masters id

-- the id of the first master of this name
abbrev pub find_master : List Master → List ℕ → Option ℕ
find_master masters name = id_named (λ master. master.name) masters name

-- no two masters have one name
abbrev pub HasDistinctNames : List Master → Type 0
HasDistinctNames masters = AreNamesDistinct (λ master. master.name) masters

-- the terminals of the master of an id, none where no master has it
abbrev pub terminals_of : List Master → ℕ → List MTerm
terminals_of masters id = option_map_or (λ master. master.terminals) (master_at masters id) []
