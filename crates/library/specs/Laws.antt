-- What masters and their terminals say of each other. What identifiers and names say of each other is a law of every
-- list of named things.
use Rattle.std.specs.Prelude.{◌≡◌, List, ℕ, Some}
use Rattle.library.specs.declared.master.Master.{Master}
use Rattle.library.specs.Masters.{master_at, terminals_of}
use Rattle.library.specs.Terminals.{HasDistinctTerminals, term_index, term_name}

-- the terminals of an id are those of its master
abbrev pub TerminalsAreOfMasters : List Master → Type 0
TerminalsAreOfMasters masters = (id : ℕ) (master : Master) → master_at masters id ≡ Some master → terminals_of masters id ≡ master.terminals

-- where the names of terminals are distinct, the place of a terminal is found by its name
abbrev pub NamedTerminalsAreFound : Master → Type 0
NamedTerminalsAreFound master = (place : ℕ) (name : List ℕ)
    → HasDistinctTerminals master → term_name master place ≡ Some name → term_index master name ≡ Some place

-- the terminal whose place is found by a name has that name
abbrev pub FoundTerminalsAreNamed : Master → Type 0
FoundTerminalsAreNamed master = (name : List ℕ) (place : ℕ) → term_index master name ≡ Some place → term_name master place ≡ Some name
