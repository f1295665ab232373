-- When a table is good, and each of its entries, and the names in it.
use Rattle.std.specs.Prelude.{◌≡◌, ◌≤◌, List, ℕ, Option, None, Some, length}
use Rattle.slot_pool.specs.Table.{IsGood, Table, record_at}
use Rattle.named_pool.specs.Names.{AreNamed}
use Rattle.block_store.specs.Lens.{Lens}

module _ {A : Type 0} where
  -- each object of a table is sound
  abbrev pub AreEach : (A → Type 0) → Table A → Type 0
  AreEach Is t = (id : ℕ) (x : A) → record_at t id ≡ Some x → Is x

  -- no two objects of a table have one name, where its objects have names
  abbrev pub HasDistinctNames : Option (Lens A (List ℕ)) → Table A → Type 0
  HasDistinctNames None t = Unit {0}
  HasDistinctNames (Some name) t = AreNamed name.get t

  -- a good table with at most so many slots
  pub record IsTable (cap : ℕ) (t : Table A) : Type 0 where
    pub good : IsGood t
    pub within : length t.slots ≤ cap
