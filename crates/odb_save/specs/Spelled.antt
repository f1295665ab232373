-- A database and what its saved bytes spell, which is all of it but the cap.
use Rattle.std.specs.Prelude.{ℕ}
use Rattle.block_store.specs.Block.{Block}
use Rattle.block_store.specs.Database.{Database}
use Rattle.saved_reader.specs.declared.saved.Saved.{Saved}

-- what the bytes of a database spell
abbrev pub spelled : Database → Saved
spelled d = record { tech = d.tech; library = d.library; tables = d.block }

-- the database of what was read, with this cap
abbrev pub database_of : ℕ → Saved → Database
database_of cap s = record { tech = s.tech; library = s.library; block = s.tables; cap = cap }

-- what would be spelled if these were the tables of a database
abbrev pub spelled_with : Database → Block → Saved
spelled_with d tables = record (spelled d) { tables = tables }
