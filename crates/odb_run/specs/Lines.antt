-- The lines of a script.
use Rattle.std.specs.Prelude.{◌≡◌, ◌==◌, Bool, false, List, [], ◌∷◌, ◌++◌, ◌+◌, ℕ, Option, None, Some, drop, take, if◌then◌else◌}
use Rattle.std.specs.List.{list_any}
use Rattle.script_words.specs.Words.{onto_first}

-- Each line ends with LF, which is no part of it. A last line without LF counts where it isn't empty.
abbrev pub lines_of : List ℕ → List (List ℕ)
lines_of [] = []
lines_of (b ∷ bytes) = if b == 10 then [] ∷ lines_of bytes else onto_first b (lines_of bytes)

-- the byte in front of the first of these lines, where there is one
abbrev pub before_first : ℕ → List (List ℕ) → List (List ℕ)
before_first b [] = []
before_first b (line ∷ lines) = (b ∷ line) ∷ lines

-- the lines whose LF is among the bytes; what stands behind the last LF is none of them
abbrev pub ended_lines : List ℕ → List (List ℕ)
ended_lines [] = []
ended_lines (b ∷ bytes) = if b == 10 then [] ∷ ended_lines bytes else before_first b (ended_lines bytes)

-- the bytes have an LF
abbrev pub has_line_end : List ℕ → Bool
has_line_end bytes = list_any (λ b. b == 10) bytes

-- the place of the first LF, if there is one
abbrev pub IsLineEnd : List ℕ → Option ℕ → Type 0
IsLineEnd bytes None = has_line_end bytes ≡ false
IsLineEnd bytes (Some at) = (has_line_end (take at bytes) ≡ false) × (bytes ≡ take at bytes ++ 10 ∷ drop (at + 1) bytes)
