-- Where a member stands in a list of identifiers. Contracts inside the crate cite it.
use Rattle.std.specs.Prelude.{◌≡◌, ◌<◌, ◌∷◌, ◌+◌, List, ℕ, false, drop, length, take}
use Rattle.odb_base.specs.Ids.{holds}

-- the place is that of the first time that the member stands in the list
pub record IsPlaceOf (member : ℕ) (ids : List ℕ) (place : ℕ) : Type 0 where
  pub within : place < length ids
  pub here : drop place ids ≡ member ∷ drop (place + 1) ids
  pub first : holds (take place ids) member ≡ false
