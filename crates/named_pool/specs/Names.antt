-- Names of the objects in a table.
use Rattle.std.specs.Prelude.{◌≡◌, ◌≢◌, Bool, false, List, ℕ, Option, None, Some, option_map}
use Rattle.std.specs.List.{position_from}
use Rattle.std.specs.Str.{bytes_eq}
use Rattle.slot_pool.specs.Table.{Table, record_at}

module _ {A : Type 0} where
  -- the slot has an object of this name
  abbrev pub is_named : (A → List ℕ) → List ℕ → Option A → Bool
  is_named name_of name None = false
  is_named name_of name (Some x) = bytes_eq (name_of x) name

  -- the first id in a table whose object has this name
  abbrev pub find_by : (A → List ℕ) → List ℕ → Table A → Option ℕ
  find_by name_of name t = position_from (is_named name_of name) 1 t.slots

  -- the name of an object, found in its table
  abbrev pub name_by : (A → List ℕ) → ℕ → Table A → Option (List ℕ)
  name_by name_of id t = option_map name_of (record_at t id)

  -- no two objects of a table have one name
  abbrev pub AreNamed : (A → List ℕ) → Table A → Type 0
  AreNamed name_of t = (a b : ℕ) (name : List ℕ) → name_by name_of a t ≡ Some name → name_by name_of b t ≡ Some name → a ≡ b

  -- no object of the table has the name
  abbrev pub IsFree : (A → List ℕ) → List ℕ → Table A → Type 0
  IsFree name_of name t = (id : ℕ) → name_by name_of id t ≢ Some name

  -- no other object of the table has the name
  abbrev pub IsFreeBut : (A → List ℕ) → ℕ → List ℕ → Table A → Type 0
  IsFreeBut name_of id name t = (other : ℕ) → name_by name_of other t ≡ Some name → other ≡ id
