-- The terminals of a master.
use Rattle.std.specs.Prelude.{◌^◌, List, ℕ, Option, Some, None, if◌then◌else◌, nat_lt, slice_get}
use Rattle.std.specs.Option.{option_map}
use Rattle.named_list.specs.Naming.{AreNamesDistinct, place_named}
use Rattle.library.specs.declared.master.Master.{Master}
use Rattle.library.specs.declared.mterm.MTerm.{MTerm}

-- the place, from 0, of the first terminal of this name
abbrev pub term_index : Master → List ℕ → Option ℕ
term_index master name = place_named (λ terminal. terminal.name) master.terminals name

-- the terminal at a place, from 0
abbrev pub term_at : Master → ℕ → Option MTerm
term_at master at = slice_get master.terminals at

-- the name of the terminal at a place, from 0
abbrev pub term_name : Master → ℕ → Option (List ℕ)
term_name master at = option_map (λ terminal. terminal.name) (term_at master at)

-- no two terminals of the master have one name
abbrev pub HasDistinctTerminals : Master → Type 0
HasDistinctTerminals master = AreNamesDistinct (λ terminal. terminal.name) master.terminals

-- a place, where a u32 can hold it
abbrev pub in_u32 : Option ℕ → Option ℕ
in_u32 None = None
in_u32 (Some at) = if nat_lt at (2 ^ 32) then Some at else None
