-- What words that are kept say together.
use Rattle.std.specs.Prelude.{◌++◌, Bool, List, [], ◌∷◌, ℕ}
use Rattle.std.specs.List.{flat_map, list_any}
use Rattle.std.specs.Str.{bytes_eq}

-- the words with one space between them
abbrev pub joined : List (List ℕ) → List ℕ
joined [] = []
joined (word ∷ words) = word ++ flat_map (λ w. 32 ∷ w) words

-- a word is among them
abbrev pub has_word : List ℕ → List (List ℕ) → Bool
has_word word words = list_any (λ w. bytes_eq w word) words
