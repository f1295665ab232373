-- What finding by names and the names of objects say of each other.
use Rattle.std.specs.Prelude.{◌≡◌, ◌↔◌, List, ℕ, None, Some}
use Rattle.slot_pool.specs.Table.{Table}
use Rattle.named_pool.specs.Names.{AreNamed, IsFree, find_by, name_by}

module _ {A : Type 0} where
  -- nothing is found by a name exactly where no object of the table has it
  abbrev pub FreeNamesAreNotFound : (A → List ℕ) → Table A → Type 0
  FreeNamesAreNotFound name_of t = (name : List ℕ) → (find_by name_of name t ≡ None) ↔ IsFree name_of name t

  -- what is found has the name that it was found by
  abbrev pub FoundHaveTheName : (A → List ℕ) → Table A → Type 0
  FoundHaveTheName name_of t = (name : List ℕ) (id : ℕ) → find_by name_of name t ≡ Some id → name_by name_of id t ≡ Some name

  -- each object is found by its name, where names are distinct
  abbrev pub NamedAreFound : (A → List ℕ) → Table A → Type 0
  NamedAreFound name_of t = AreNamed name_of t → (name : List ℕ) (id : ℕ) → name_by name_of id t ≡ Some name → find_by name_of name t ≡ Some id
