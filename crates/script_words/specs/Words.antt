-- The words of a line.
use Rattle.std.specs.Prelude.{◌≡◌, ◌==◌, ◌||◌, Bool, true, List, [], ◌∷◌, ℕ, Option, None, Some, if◌then◌else◌}
use Rattle.std.specs.Borrow.{Bor}

-- a space or a tab
abbrev pub is_blank : ℕ → Bool
is_blank b = b == 32 || b == 9

-- the first byte, if there is one, is a blank
abbrev pub begins_blank : List ℕ → Bool
begins_blank [] = true
begins_blank (b ∷ bytes) = is_blank b

-- the byte in front of the first word
abbrev pub onto_first : ℕ → List (List ℕ) → List (List ℕ)
onto_first b [] = (b ∷ []) ∷ []
onto_first b (word ∷ words) = (b ∷ word) ∷ words

-- the words of a line: its longest parts without blanks
abbrev pub words_of : List ℕ → List (List ℕ)
words_of [] = []
words_of (b ∷ bytes) =
    if is_blank b then words_of bytes
    else if begins_blank bytes then (b ∷ []) ∷ words_of bytes
    else onto_first b (words_of bytes)

-- the first word of a line with what stands behind it, or nothing
abbrev pub IsFirstWord : List ℕ → Option (Bor (List ℕ) × Bor (List ℕ)) → Type 0
IsFirstWord line None = words_of line ≡ []
IsFirstWord line (Some (word, rest)) = words_of line ≡ word.now ∷ words_of rest.now
