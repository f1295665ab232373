-- The parts of which replies are made.
use Rattle.std.specs.Prelude.{List, [], ◌∷◌, ℕ, decimal}

-- a space and a number
abbrev pub value : ℕ → List ℕ
value n = 32 ∷ decimal n

-- a space and a word
abbrev pub spaced : List ℕ → List ℕ
spaced word = 32 ∷ word

-- the byte that ends a line
abbrev pub line_end : List ℕ
line_end = 10 ∷ []
