-- The value of a journal.
use Rattle.std.specs.Prelude.{List, ℕ}
use Rattle.odb_run.specs.declared.journal.Entry.{Entry}

-- the entries, and for how many more there is room
pub record Noted : Type 0 where
  pub entries : List Entry
  pub spare : ℕ
