-- What a source has to do with an answer.
use Rattle.std.specs.Prelude.{◌≤◌, Bool, true, false, ℕ, Option, Some, None, Result, Ok, Err, IsErrOf, ⊤}
use Rattle.odb_outside.specs.Outside.{Rose}
use Rattle.ld_words.specs.declared.word.WordFault.{WordFault}
use Rattle.ld_words.specs.declared.word.WordFault.TheVariants as fault

-- a count of faults never falls, and it rose where the answer is `ReadFault`
pub record HasReadCause {T : Type 0} (before now : ℕ) (result : Result T WordFault) : Type 0 where
  pub later : before ≤ now
  pub failed : IsErrOf result fault.ReadFault → Rose before now

-- the fact holds after every answer but `ReadFault`
abbrev pub UnlessReadFault : {T : Type 0} → Result T WordFault → Type 0 → Type 0
UnlessReadFault (Ok value) P = P
UnlessReadFault (Err (fault.OpenQuote line)) P = P
UnlessReadFault (Err (fault.LongWord line)) P = P
UnlessReadFault (Err (fault.TooLong line)) P = P
UnlessReadFault (Err fault.ReadFault) P = ⊤
UnlessReadFault (Err fault.Memory) P = P

-- the fault that is kept is that a read failed
abbrev pub is_read_fault : Option WordFault → Bool
is_read_fault None = false
is_read_fault (Some (fault.OpenQuote line)) = false
is_read_fault (Some (fault.LongWord line)) = false
is_read_fault (Some (fault.TooLong line)) = false
is_read_fault (Some fault.ReadFault) = true
is_read_fault (Some fault.Memory) = false
