-- The slots of a pool as the cells of an index of names.
use Rattle.std.proofs.Common.{◌≡◌, ◌≢◌, Bool, true, false, List, [], ℕ, Option, refl, ap, ◌∙◌}
use Rattle.std.specs.Option.{option_map, option_map_or}
use Rattle.slot_pool.specs.Mapped.{on_pool}
use Rattle.slot_pool.specs.Table.{is_live, record_at}
use Rattle.slot_pool.proofs.Mapped.{at_on, at_on_other, live_on, live_record, view_on}
use Rattle.named_pool.specs.declared.cells.NameCell.{NameCell}
use Rattle.named_pool.specs.declared.cells.NameCells.{NameCells}

module _ {R : Type 0} where
  -- the id has an object
  abbrev pub cell : NameCells R → ℕ → Bool
  cell cells id = is_live cells.pool.table id

  -- the name of its object
  abbrev pub name_of : (R → List ℕ) → NameCells R → ℕ → List ℕ
  name_of own cells id = option_map_or (λ c. own c.value) (record_at cells.pool.table id) []

  -- the id after it in its chain, 0 for none
  abbrev pub chain_of : NameCells R → ℕ → ℕ
  chain_of cells id = option_map_or (λ c. c.chain) (record_at cells.pool.table id) 0

  -- an object with another id after it
  abbrev pub chained : ℕ → NameCell R → NameCell R
  chained next c = record c { chain = next }

  -- the cells with another id after this one
  abbrev pub with_chain : NameCells R → ℕ → ℕ → NameCells R
  with_chain cells id next = record cells { pool = on_pool (chained next) id cells.pool }

  -- The laws of cells.

  -- 0 has no object
  pub cell-none : (cells : NameCells R) → cell cells 0 ≡ false
  cell-none cells = refl

  -- where a chain is set, the same ids have objects
  pub cell-with_chain : (cells : NameCells R) (id other next : ℕ) → cell cells id ≡ true → cell (with_chain cells id next) other ≡ cell cells other
  cell-with_chain cells id other next is = live_on (chained next) id cells.pool.table other

  -- and they have the same names
  pub name_of-with_chain : (own : R → List ℕ) (cells : NameCells R) (id other next : ℕ) → cell cells id ≡ true → name_of own (with_chain cells id next) other ≡ name_of own cells other
  name_of-with_chain own cells id other next is =
      view_on (λ (o : Option (NameCell R)). option_map_or (λ c. own c.value) o []) (chained next) id cells.pool.table (λ x found. refl) other

  -- the chain that was set is there
  pub chain_of-set : (cells : NameCells R) (id next : ℕ) → cell cells id ≡ true → chain_of (with_chain cells id next) id ≡ next
  chain_of-set cells id next is =
      let x = live_record cells.pool.table id is in
      ap (λ (o : Option (NameCell R)). option_map_or (λ c. c.chain) o 0) (at_on (chained next) id cells.pool.table ∙ ap (option_map (chained next)) x.is)

  -- and no other chain changes
  pub chain_of-others : (cells : NameCells R) (id other next : ℕ) → cell cells id ≡ true → other ≢ id → chain_of (with_chain cells id next) other ≡ chain_of cells other
  chain_of-others cells id other next is apart =
      ap (λ (o : Option (NameCell R)). option_map_or (λ c. c.chain) o 0) (at_on_other (chained next) id other cells.pool.table apart)
