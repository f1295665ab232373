-- The identifiers of a map, gathered in a list.
use Rattle.std.specs.Prelude.{◌≡◌, Bool, List, ℕ, Some, true}
use Rattle.std.specs.FinMap.{get}
use Rattle.odb_base.specs.Ids.{IsDistinct, holds}
use Rattle.name_index.specs.Names.{Names}

-- the list has just the identifiers of the map, each once; each names a cell with its name
pub record AreIds (cell : ℕ → Bool) (name : ℕ → List ℕ) (ids : List ℕ) (names : Names) : Type 0 where
  pub distinct : IsDistinct ids
  pub each : (id : ℕ) → holds ids id ≡ true → (cell id ≡ true) × (get names (name id) ≡ Some id)
  pub all : (bytes : List ℕ) (id : ℕ) → get names bytes ≡ Some id → (name id ≡ bytes) × (holds ids id ≡ true)
