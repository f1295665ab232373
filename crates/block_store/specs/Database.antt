-- A database: a technology, a library, a block and the cap of its tables; and when it is sound.
use Rattle.std.specs.Prelude.{◌≤◌, ◌++◌, ◌∷◌, List, [], ℕ, take}
use Rattle.block_records.specs.Header.{new_header}
use Rattle.tech.specs.Technology.{Technology, empty_technology}
use Rattle.library.specs.declared.master.Master.{Master}
use Rattle.lawful_parts.specs.Lawful.{IsLibrary, IsTechnology}
use Rattle.block_store.specs.Block.{Block, empty_block}
use Rattle.block_store.specs.Sound.{IsSound}
use Rattle.block_store.specs.Store.{Store}

pub record Database : Type 0 where
  pub tech : Technology
  pub library : List Master
  pub block : Block
  pub cap : ℕ

-- the database without masters and objects
abbrev pub empty_database : ℕ → Database
empty_database cap = record { tech = empty_technology; library = []; block = empty_block new_header; cap = cap }

-- the database of a technology, a library, and a block with its cap
abbrev pub database_of : Technology → List Master → Store → Database
database_of technology masters store = record { tech = technology; library = masters; block = store.block; cap = store.cap }

-- the database with another technology
abbrev pub with_tech : Technology → Database → Database
with_tech t d = record d { tech = t }

-- the database with one more master
abbrev pub with_master : Master → Database → Database
with_master m d = record d { library = d.library ++ m ∷ [] }

-- the database with so many first layers, vias, sites and masters
abbrev pub cut_to : ℕ → ℕ → ℕ → ℕ → Database → Database
cut_to layers vias sites masters d = record d {
  tech = record d.tech { layers = take layers d.tech.layers; vias = take vias d.tech.vias; sites = take sites d.tech.sites };
  library = take masters d.library;
}

-- A database is sound: its technology and its library are lawful, and its block is sound with them.
pub record IsSoundDatabase (d : Database) : Type 0 where
  pub tech : IsTechnology d.tech
  pub library : IsLibrary d.tech d.library
  pub block : IsSound d.tech d.library d.cap d.block
  pub capped : d.cap ≤ 16777215
