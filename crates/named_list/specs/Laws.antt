-- What identifiers and names say of each other, and of a list that grew or was cut.
use Rattle.std.specs.Prelude.{◌≡◌, ◌≢◌, ◌+◌, ◌++◌, ◌∷◌, [], List, ℕ, Some, None, if◌then◌else◌, length, nat_le, take}
use Rattle.named_list.specs.Naming.{AreNamesDistinct, at_id, id_named, place_named}

module _ {A : Type 0} where
  -- things keep their identifiers where more are entered;
  abbrev pub GrowingKeepsIds : List A → List A → Type 0
  GrowingKeepsIds things more = (id : ℕ) (thing : A) → at_id things id ≡ Some thing → at_id (things ++ more) id ≡ Some thing

  -- the identifier of a thing that is entered is one more than how many there were
  abbrev pub LastHasLastId : List A → Type 0
  LastHasLastId things = (thing : A) → at_id (things ++ thing ∷ []) (length things + 1) ≡ Some thing

  -- a cut takes the things of identifiers past it, and leaves the others
  abbrev pub CutKeepsIds : List A → Type 0
  CutKeepsIds things = (count id : ℕ) → at_id (take count things) id ≡ (if nat_le id count then at_id things id else None)

module _ {A : Type 0} (name_of : A → List ℕ) where
  -- where names are distinct, the identifier of a thing is found by its name
  abbrev pub NamedAreFound : List A → Type 0
  NamedAreFound things = (id : ℕ) (thing : A)
      → AreNamesDistinct name_of things → at_id things id ≡ Some thing → id_named name_of things (name_of thing) ≡ Some id

  -- the thing whose identifier is found by a name has that name
  abbrev pub FoundAreNamed : List A → Type 0
  FoundAreNamed things = (name : List ℕ) (id : ℕ)
      → id_named name_of things name ≡ Some id → (thing : A) × (at_id things id ≡ Some thing) × (name_of thing ≡ name)

  -- a name that isn't found is that of nothing in the list
  abbrev pub UnfoundAreAbsent : List A → Type 0
  UnfoundAreAbsent things = (name : List ℕ) (id : ℕ) (thing : A)
      → id_named name_of things name ≡ None → at_id things id ≡ Some thing → name ≢ name_of thing

  -- names that are found keep their identifiers where more are entered
  abbrev pub GrowingKeepsNames : List A → List A → Type 0
  GrowingKeepsNames things more = (name : List ℕ) (id : ℕ)
      → id_named name_of things name ≡ Some id → id_named name_of (things ++ more) name ≡ Some id

  -- names stay distinct where a thing of a new name is entered,
  abbrev pub EnteringKeepsDistinct : List A → Type 0
  EnteringKeepsDistinct things = (thing : A)
      → AreNamesDistinct name_of things → id_named name_of things (name_of thing) ≡ None → AreNamesDistinct name_of (things ++ thing ∷ [])

  -- and where the last things are cut off
  abbrev pub CutKeepsDistinct : List A → Type 0
  CutKeepsDistinct things = (count : ℕ) → AreNamesDistinct name_of things → AreNamesDistinct name_of (take count things)
