-- What is known only of a source that tells its bytes.
use Rattle.std.specs.Prelude.{◌≡◌, List, ◌++◌, ℕ, Option, Some, None, ⊤}
use Rattle.std.specs.Option.{option_map}
use Rattle.ld_words.specs.declared.word.WordFault.{WordFault}
use Rattle.ld_words.specs.declared.word.WordFault.TheVariants as fault
use Rattle.ld_words.specs.Reading.{Reading, faulty}

-- what was told before is still told, and is the same
abbrev pub SameIfTold : {A : Type 0} → Option A → Option A → Type 0
SameIfTold None now = ⊤
SameIfTold (Some before) None = ⊥
SameIfTold (Some before) (Some now) = now ≡ before

-- the bytes at hand and then those that are left, where they are told
abbrev pub ahead : List ℕ → Option (List ℕ) → Option (List ℕ)
ahead hand left = option_map (λ l. hand ++ l) left

-- the reading is this fault; of want of memory and of a failed read it says nothing
abbrev pub ShowsFault : Option Reading → WordFault → Type 0
ShowsFault before (fault.OpenQuote line) = SameIfTold before (Some (faulty (fault.OpenQuote line)))
ShowsFault before (fault.LongWord line) = SameIfTold before (Some (faulty (fault.LongWord line)))
ShowsFault before (fault.TooLong line) = SameIfTold before (Some (faulty (fault.TooLong line)))
ShowsFault before fault.ReadFault = ⊤
ShowsFault before fault.Memory = ⊤
