-- Lists of bytes.
use Rattle.std.specs.Prelude.{List, ℕ, ◌<◌, slice_index}

-- each is below 256
abbrev pub AreBytes : List ℕ → Type 0
AreBytes bytes = (i : ℕ) → slice_index bytes i < 256
