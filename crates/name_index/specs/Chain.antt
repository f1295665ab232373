-- Chains of identifiers: each leads to the next, and the last to 0.
use Rattle.std.specs.Prelude.{◌≡◌, ◌==◌, Bool, List, [], ◌∷◌, ℕ, zero, suc, IsTrue, if◌then◌else◌, true}
use Rattle.odb_base.specs.Ids.{holds}

-- each identifier of the list names a cell
abbrev pub AreCells : (ℕ → Bool) → List ℕ → Type 0
AreCells cell ids = (id : ℕ) → holds ids id ≡ true → cell id ≡ true

-- a number leads to these identifiers, one after another: each names a cell, and the last leads to 0
abbrev pub IsChain : (ℕ → Bool) → (ℕ → ℕ) → ℕ → List ℕ → Type 0
IsChain cell chain first [] = first ≡ 0
IsChain cell chain first (id ∷ ids) = (first ≡ id) × IsTrue (cell id) × IsChain cell chain (chain id) ids

-- the identifiers to which a number leads, and at most so many
abbrev pub ids_from : (ℕ → ℕ) → ℕ → ℕ → List ℕ
ids_from chain zero id = []
ids_from chain (suc most) zero = []
ids_from chain (suc most) (suc id) = suc id ∷ ids_from chain most (chain (suc id))

-- what stands before an identifier, where what stands before the list is given; the last where it isn't there
abbrev pub prior_in : ℕ → List ℕ → ℕ → ℕ
prior_in prior [] id = prior
prior_in prior (x ∷ xs) id = if x == id then prior else prior_in x xs id

-- what stands before an identifier in a chain of at most so many, 0 where it is the first
abbrev pub prior_of : (ℕ → ℕ) → ℕ → ℕ → ℕ → ℕ
prior_of chain most first id = prior_in 0 (ids_from chain most first) id
