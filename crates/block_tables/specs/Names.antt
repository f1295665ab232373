-- Names that no two objects of a table hold.
use Rattle.std.specs.Prelude.{◌≡◌, List, ℕ, Option, None, Some}
use Rattle.slot_pool.specs.Table.{Table}
use Rattle.block_store.specs.Lens.{Lens}
use Rattle.named_pool.specs.Names.{name_by}

module _ {A : Type 0} where
  -- no other object of the table has the name
  abbrev pub IsAlone : (A → List ℕ) → Table A → ℕ → List ℕ → Type 0
  IsAlone name_of t id name = (other : ℕ) → name_by name_of other t ≡ Some name → other ≡ id

  -- and so of the object's own name, where objects of the table have names
  abbrev pub HasOwnName : Option (Lens A (List ℕ)) → Table A → ℕ → A → Type 0
  HasOwnName None t id x = Unit {0}
  HasOwnName (Some name) t id x = IsAlone name.get t id (name.get x)
