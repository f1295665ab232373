-- Plain lists of identifiers: who stands before whom.
use Rattle.std.specs.Prelude.{◌==◌, List, [], ◌∷◌, ℕ, Option, Some, None, if◌then◌else◌}

-- the member before an identifier, where the one before the list is given
abbrev pub before_from : Option ℕ → List ℕ → ℕ → Option ℕ
before_from last [] id = None
before_from last (x ∷ xs) id = if x == id then last else before_from (Some x) xs id

-- the member before an identifier
abbrev pub before : List ℕ → ℕ → Option ℕ
before ids id = before_from None ids id
