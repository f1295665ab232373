-- Lists of identifiers: who is a member, who stands after whom, and the list without one or with one more.
use Rattle.std.specs.Prelude.{◌≡◌, ◌==◌, Bool, List, [], ◌∷◌, ◌++◌, ℕ, Option, Some, None, if◌then◌else◌, false, true}
use Rattle.std.specs.List.{list_any}

-- the identifier is a member of the list
abbrev pub holds : List ℕ → ℕ → Bool
holds ids id = list_any (λ x. x == id) ids

-- no member stands twice in the list
abbrev pub IsDistinct : List ℕ → Type 0
IsDistinct [] = Unit {0}
IsDistinct (id ∷ ids) = (holds ids id ≡ false) × IsDistinct ids

-- the lists have no common member
abbrev pub AreApart : List ℕ → List ℕ → Type 0
AreApart ids others = (id : ℕ) → holds ids id ≡ true → holds others id ≡ false

-- the first member
abbrev pub first : List ℕ → Option ℕ
first [] = None
first (id ∷ ids) = Some id

-- the member after an identifier
abbrev pub after : List ℕ → ℕ → Option ℕ
after [] id = None
after (x ∷ xs) id = if x == id then first xs else after xs id

-- the list without an identifier
abbrev pub without : ℕ → List ℕ → List ℕ
without id [] = []
without id (x ∷ xs) = if x == id then xs else x ∷ without id xs

-- the list with an identifier put before a member, or last where that is no member
abbrev pub placed_before : ℕ → ℕ → List ℕ → List ℕ
placed_before id next [] = id ∷ []
placed_before id next (x ∷ xs) = if x == next then id ∷ x ∷ xs else x ∷ placed_before id next xs

-- the list with an identifier put before a member, or last where none is named
abbrev pub placed : ℕ → Option ℕ → List ℕ → List ℕ
placed id None ids = ids ++ id ∷ []
placed id (Some next) ids = placed_before id next ids
