-- A shelf over memory, and what each call does to its count of calls.
use Rattle.std.specs.Prelude.{◌≡◌, ◌<◌, ◌≤◌, List, [], ℕ, true, false, Some, Result, Ok, Err, drop, length, ⊤}
use Rattle.odb_outside.specs.declared.fault.OpenFault.{OpenFault}
use Rattle.odb_outside.specs.declared.fault.OpenFault.TheVariants as opened
use Rattle.odb_outside.specs.declared.fault.WriteFault.{WriteFault}
use Rattle.odb_outside.specs.declared.fault.WriteFault.TheVariants as written
use Rattle.odb_outside.specs.declared.shelf.Hand.{Hand}
use Rattle.odb_outside.specs.declared.shelf.Hand.TheVariants as hand
use Rattle.odb_outside.specs.Calls.{Schedule, fails_next, next_call}
use Rattle.odb_outside.specs.Files.{AreInOrder, File, bytes_of, file_of}
use Rattle.odb_outside.specs.Placing.{bytes_at}
use Rattle.odb_outside.specs.Shelves.{Told}

-- what it tells, that its files are in order, what is in hand, the most that one call moves, and its calls
pub record Shelved : Type 0 where
  pub told : Told
  pub ordered : AreInOrder told.files
  pub hand : Hand
  pub piece : ℕ
  pub calls : Schedule

-- the bytes that are left of the file at a place, of which so many were read, where it is being read
abbrev pub left_of : Hand → ℕ → ℕ → List File → List ℕ
left_of hand.Reading at taken files = drop taken (bytes_at at files)
left_of hand.Nothing at taken files = []
left_of hand.Writing at taken files = []

-- there is such a file, and no more than its bytes were read
abbrev pub IsInHand : Hand → ℕ → ℕ → List ℕ → List File → Type 0
IsInHand hand.Reading at taken name files = (at < length files) × (taken ≤ length (bytes_at at files))
IsInHand hand.Nothing at taken name files = ⊤
IsInHand hand.Writing at taken name files = file_of name files ≡ Some (bytes_of name files)

-- The call was counted, and it failed just where it is one of those that are to fail.

abbrev pub CountsOpen : Shelved → Shelved → Result (Unit {0}) OpenFault → Type 0
CountsOpen old new (Err opened.Failed) = (fails_next old.calls ≡ true) × (new.calls ≡ next_call old.calls)
CountsOpen old new (Err opened.NoFile) = (fails_next old.calls ≡ false) × (new.calls ≡ next_call old.calls)
CountsOpen old new (Ok done) = (fails_next old.calls ≡ false) × (new.calls ≡ next_call old.calls)

abbrev pub Counts : {T E : Type 0} → Shelved → Shelved → Result T E → Type 0
Counts old new (Ok x) = (fails_next old.calls ≡ false) × (new.calls ≡ next_call old.calls)
Counts old new (Err e) = (fails_next old.calls ≡ true) × (new.calls ≡ next_call old.calls)

-- a call that wanted memory isn't counted
abbrev pub CountsWrite : {T : Type 0} → Shelved → Shelved → Result T WriteFault → Type 0
CountsWrite old new (Ok x) = (fails_next old.calls ≡ false) × (new.calls ≡ next_call old.calls)
CountsWrite old new (Err written.Failed) = (fails_next old.calls ≡ true) × (new.calls ≡ next_call old.calls)
CountsWrite old new (Err written.Memory) = (fails_next old.calls ≡ false) × (new.calls ≡ old.calls)
