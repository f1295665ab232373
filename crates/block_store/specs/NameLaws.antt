-- What finding by names and the names of objects say of each other.
use Rattle.std.specs.Prelude.{◌≡◌, ◌↔◌, List, ℕ, None, Some}
use Rattle.odb_base.specs.declared.codes.kind.Kind.{Kind}
use Rattle.block_store.specs.Block.{Block}
use Rattle.block_store.specs.Names.{IsFree, find_in, name_in}

-- no two objects of the kind have the same name
abbrev pub AreNamesDistinct : Kind → Block → Type 0
AreNamesDistinct k b = (name : List ℕ) (one other : ℕ) → name_in k one b ≡ Some name → name_in k other b ≡ Some name → one ≡ other

-- nothing is found by a name exactly where no object of the kind has it
abbrev pub FreeNamesAreNotFound : Kind → Block → Type 0
FreeNamesAreNotFound k b = (name : List ℕ) → (find_in k name b ≡ None) ↔ IsFree k name b

-- what is found has the name that it was found by
abbrev pub FoundHaveTheName : Kind → Block → Type 0
FoundHaveTheName k b = (name : List ℕ) (id : ℕ) → find_in k name b ≡ Some id → name_in k id b ≡ Some name

-- each object is found by its name, where names are distinct
abbrev pub NamedAreFound : Kind → Block → Type 0
NamedAreFound k b = AreNamesDistinct k b → (name : List ℕ) (id : ℕ) → name_in k id b ≡ Some name → find_in k name b ≡ Some id
