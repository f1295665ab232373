-- What a read does to the bytes that are left, where they are told.
use Rattle.std.specs.Prelude.{◌≡◌, ◌<◌, List, [], ◌++◌, ℕ, Option, Some, None, Result, Ok, Err, ⊤, length, take}

-- n bytes were read into the piece, and they were the next ones; none of a piece with room is the end
abbrev pub TakesNext : List ℕ → Option (List ℕ) → ℕ → List ℕ → Type 0
TakesNext old None n piece = ⊥
TakesNext old (Some new) n piece = (old ≡ take n piece ++ new) × (0 < length piece → n ≡ 0 → old ≡ [])

-- where the bytes are still told, none is lost
abbrev pub LosesNone : List ℕ → Option (List ℕ) → Type 0
LosesNone old None = ⊤
LosesNone old (Some new) = new ≡ old

abbrev pub ReadsTold : {E : Type 0} → List ℕ → Option (List ℕ) → Result ℕ E → List ℕ → Type 0
ReadsTold old new (Ok n) piece = TakesNext old new n piece
ReadsTold old new (Err e) piece = LosesNone old new

-- what a read leaves: of bytes that aren't told nothing is said
abbrev pub Reads : {E : Type 0} → Option (List ℕ) → Option (List ℕ) → Result ℕ E → List ℕ → Type 0
Reads None new result piece = ⊤
Reads (Some old) new result piece = ReadsTold old new result piece
