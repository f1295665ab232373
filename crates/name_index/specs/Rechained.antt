-- Cells of which some chains were set.
use Rattle.std.specs.Prelude.{◌≡◌, List, [], ◌∷◌, ℕ}
use Rattle.std.specs.List.{AllByRecursion}

-- the cells with chains set, one after another: of an identifier the number that comes after it
abbrev pub with_chains : {Cells : Type 0} → (Cells → ℕ → ℕ → Cells) → List (ℕ × ℕ) → Cells → Cells
with_chains with_chain [] cells = cells
with_chains with_chain (set ∷ sets) cells = with_chains with_chain sets (with_chain cells set.0 set.1)

-- the cells are the old ones with the chains of some of these identifiers set, and all else in them stands
pub record Rechained {Cells : Type 0} (with_chain : Cells → ℕ → ℕ → Cells) (Of : ℕ → Type 0) (old new : Cells) : Type 0 where
  pub sets : List (ℕ × ℕ)
  pub each : AllByRecursion (λ set. Of set.0) sets
  pub is : new ≡ with_chains with_chain sets old
