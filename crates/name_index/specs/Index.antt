-- When an index stands over cells for a map from names to identifiers.
use Rattle.std.specs.Prelude.{◌≡◌, ◌-◌, ◌<◌, Bool, List, [], ◌∷◌, ℕ, Some, true, length, slice_index}
use Rattle.std.specs.FinMap.{empty, get, insert, len}
use Rattle.std.specs.List.{flat_map}
use Rattle.name_index.specs.Chain.{IsChain, ids_from}
use Rattle.odb_base.specs.Ids.{IsDistinct, holds}
use Rattle.name_index.specs.Hash.{bucket_at}
use Rattle.name_index.specs.Names.{Names}

-- the first identifier of each bucket, 0 for none, and how many names are held
pub record Index : Type 0 where
  pub heads : List ℕ
  pub held : ℕ

-- for how many more names there is room: no more are held than there are buckets
abbrev pub spare : Index → ℕ
spare index = length index.heads - index.held

-- An index stands for a map over cells, their names and their chains.
pub record Stands (cell : ℕ → Bool) (name : ℕ → List ℕ) (chain : ℕ → ℕ) (index : Index) (names : Names) : Type 0 where
  -- for each bucket there is a chain,
  pub chains : ℕ → List ℕ
  pub linked : (bucket : ℕ) → bucket < length index.heads
      → IsChain cell chain (slice_index index.heads bucket) (chains bucket)
  pub distinct : (bucket : ℕ) → IsDistinct (chains bucket)
  -- in which each identifier stands in the map under its name, and in the bucket of that name;
  pub listed : (bucket id : ℕ) → holds (chains bucket) id ≡ true
      → (bucket < length index.heads)
      × (bucket ≡ bucket_at (length index.heads) (name id))
      × (get names (name id) ≡ Some id)
  -- what the map has under a name has that name, and is in its bucket;
  pub found : (bytes : List ℕ) (id : ℕ) → get names bytes ≡ Some id
      → (name id ≡ bytes) × (holds (chains (bucket_at (length index.heads) bytes)) id ≡ true)
  -- and so many names are held as the map has.
  pub counted : index.held ≡ len names

-- the map that has each of these identifiers under its name
abbrev pub names_of : (ℕ → List ℕ) → List ℕ → Names
names_of name [] = empty
names_of name (id ∷ ids) = insert (names_of name ids) (name id) id

-- the map that is read off the chains of an index
abbrev pub names_in : (ℕ → List ℕ) → (ℕ → ℕ) → Index → Names
names_in name chain index = names_of name (flat_map (ids_from chain index.held) index.heads)
