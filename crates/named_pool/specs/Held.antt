-- When an index holds the names of all objects in the slots of a pool.
use Rattle.std.specs.Prelude.{◌≡◌, ◌≤◌, List, ℕ, Some, min, length, true}
use Rattle.std.specs.FinMap.{get}
use Rattle.name_index.specs.Index.{Index, Stands, names_in, spare}
use Rattle.name_index.specs.Names.{Names}
use Rattle.slot_pool.specs.Mapped.{plain}
use Rattle.slot_pool.specs.Table.{Pool, Table}
use Rattle.named_pool.specs.declared.cells.NameCell.{NameCell}
use Rattle.named_pool.specs.declared.cells.NameCells.{NameCells}
use Rattle.named_pool.specs.Cells.{cell, chain_of, name_of}

module _ {R : Type 0} where
  -- the table of the objects alone
  abbrev pub objects : NameCells R → Table R
  objects cells = plain (λ (c : NameCell R). c.value) cells.pool.table

  -- the pool of the objects: there is room for a take where there is room in the slots and in the index
  abbrev pub pool_of : NameCells R → Index → Pool R
  pool_of cells index = record { table = objects cells; cap = cells.pool.cap; spare = min cells.pool.spare (spare index); moved = cells.pool.moved }

  -- the map that is read off the chains of an index
  abbrev pub held : (R → List ℕ) → NameCells R → Index → Names
  held own cells index = names_in (name_of own cells) (chain_of cells) index

  -- an index holds the name of each object, with its id, and has room for as many names as ids are free
  pub record IsNamed (own : R → List ℕ) (cells : NameCells R) (index : Index) : Type 0 where
    pub stands : Stands (cell cells) (name_of own cells) (chain_of cells) index (held own cells index)
    pub each : (id : ℕ) → cell cells id ≡ true → get (held own cells index) (name_of own cells id) ≡ Some id
    pub room : length cells.pool.table.free ≤ spare index

  -- an index holds these names, those of the objects up to this id
  pub record AreHeldTo (own : R → List ℕ) (cells : NameCells R) (index : Index) (names : Names) (last : ℕ) : Type 0 where
    pub stands : Stands (cell cells) (name_of own cells) (chain_of cells) index names
    pub each : (id : ℕ) → id ≤ last → cell cells id ≡ true → get names (name_of own cells id) ≡ Some id
    pub only : (bytes : List ℕ) (id : ℕ) → get names bytes ≡ Some id → id ≤ last

  -- the same of the map that is read off the chains
  abbrev pub HoldsTo : (R → List ℕ) → NameCells R → Index → ℕ → Type 0
  HoldsTo own cells index last = AreHeldTo own cells index (held own cells index) last
