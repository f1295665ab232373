-- What a write does to the bytes that are held, where they are told.
use Rattle.std.specs.Prelude.{◌≡◌, ◌≤◌, List, [], ◌++◌, ℕ, Option, Some, None, Result, Ok, Err, ⊤, length, take}
use Rattle.odb_outside.specs.declared.fault.WriteFault.{WriteFault}
use Rattle.odb_outside.specs.declared.fault.WriteFault.TheVariants as fault

-- the object tells its bytes, which are the old ones and more
abbrev pub GrowsTo : List ℕ → Option (List ℕ) → List ℕ → Type 0
GrowsTo old None more = ⊥
GrowsTo old (Some new) more = new ≡ old ++ more

-- the object gained just these bytes; of bytes that aren't told nothing is said
abbrev pub Grows : Option (List ℕ) → Option (List ℕ) → List ℕ → Type 0
Grows None new more = ⊤
Grows (Some old) new more = GrowsTo old new more

abbrev pub GrowsToPrefix : List ℕ → Option (List ℕ) → List ℕ → Type 0
GrowsToPrefix old new piece = (n : ℕ) × (n ≤ length piece) × GrowsTo old new (take n piece)

-- the object gained the bytes up to some place, and no others
abbrev pub GrowsByPrefix : Option (List ℕ) → Option (List ℕ) → List ℕ → Type 0
GrowsByPrefix None new piece = ⊤
GrowsByPrefix (Some old) new piece = GrowsToPrefix old new piece

-- what a write leaves that answered a number of bytes, or a fault
abbrev pub Writes : Option (List ℕ) → Option (List ℕ) → Result ℕ WriteFault → List ℕ → Type 0
Writes old new (Ok n) piece = Grows old new (take n piece)
Writes old new (Err fault.Failed) piece = GrowsByPrefix old new piece
Writes old new (Err fault.Memory) piece = Grows old new []

-- what writing a whole piece leaves
abbrev pub WritesAll : {T : Type 0} → Option (List ℕ) → Option (List ℕ) → Result T WriteFault → List ℕ → Type 0
WritesAll old new (Ok done) piece = Grows old new piece
WritesAll old new (Err e) piece = GrowsByPrefix old new piece

-- the fact holds after every answer but `Failed`
abbrev pub UnlessFailed : {T : Type 0} → Result T WriteFault → Type 0 → Type 0
UnlessFailed (Ok n) P = P
UnlessFailed (Err fault.Failed) P = ⊤
UnlessFailed (Err fault.Memory) P = P
