-- Laws of the definitions: what holds of the words of every text, and of every rounding.
use Rattle.std.specs.Prelude.{◌≡◌, ◌+◌, ◌*◌, ◌<◌, ◌≤◌, ◌⊎◌, ◌&&◌, ◌++◌, Bool, true, false, List, [], ◌∷◌, ℕ, ⊤, length, not}
use Rattle.std.specs.List.{AllByRecursion, list_all}
use Rattle.ld_words.specs.declared.word.Word.{Word}
use Rattle.ld_words.specs.Decimal.{rounded}
use Rattle.ld_words.specs.Reading.{Done, Ending, Faulty, is_blank, is_quote, line_feeds, opens_comment, words_of}

-- the line on which a text ends, where it has no fault
abbrev pub EndsOn : Ending → ℕ → Type 0
EndsOn (Done line) expected = line ≡ expected
EndsOn (Faulty f) expected = ⊤

-- a text without a fault ends on the line after its line feeds
abbrev pub LinesAreCounted : Type 0
LinesAreCounted = (text : List ℕ) → EndsOn (words_of text).ending (1 + line_feeds text)

-- no whole number is nearer to n over d than the rounded one, and of two that are equally near it is the greater
abbrev pub RoundsToNearest : Type 0
RoundsToNearest = (n d : ℕ) → 0 < d
    → (2 * d * rounded n d ≤ 2 * n + d) × (2 * n + d < 2 * d * (rounded n d + 1))

-- the bytes of a plain word: none parts words, and the first opens neither a comment nor a quoted word
abbrev pub is_plain : List ℕ → Bool
is_plain [] = false
is_plain (b ∷ bytes) =
    not (opens_comment b) && not (is_quote b) && list_all (λ c. not (is_blank c)) (b ∷ bytes)

-- these bytes between quotes
abbrev pub quoted : List ℕ → List ℕ
quoted inside = 34 ∷ inside ++ 34 ∷ []

-- bytes that are a word: a plain one, or one between quotes that has no other quote
abbrev pub IsWord : List ℕ → Type 0
IsWord bytes =
    (is_plain bytes ≡ true)
    ⊎ ((inside : List ℕ) × (bytes ≡ quoted inside) × (list_all (λ b. not (is_quote b)) inside ≡ true))

-- a word that isn't too long, and the blank behind it
abbrev pub IsSpaced : List ℕ × ℕ → Type 0
IsSpaced p = IsWord p.0 × (length p.0 ≤ 65535) × (is_blank p.1 ≡ true)

-- the text of words with a blank behind each
abbrev pub spaced : List (List ℕ × ℕ) → List ℕ
spaced [] = []
spaced (p ∷ ps) = p.0 ++ p.1 ∷ spaced ps

-- the words, each with the line on which it begins, where the first one begins on this line
abbrev pub lined : ℕ → List (List ℕ × ℕ) → List Word
lined line [] = []
lined line (p ∷ ps) = record { bytes = p.0; line = line } ∷ lined (line + line_feeds (p.0 ++ p.1 ∷ [])) ps

-- a text of words with a blank behind each has just these words, each with its line
abbrev pub SpacedWordsAreRead : Type 0
SpacedWordsAreRead = (ps : List (List ℕ × ℕ)) → AllByRecursion IsSpaced ps
    → length (spaced ps) ≤ 4294967295
    → words_of (spaced ps) ≡ record { words = lined 1 ps; ending = Done (1 + line_feeds (spaced ps)) }
