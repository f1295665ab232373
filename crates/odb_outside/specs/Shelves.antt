-- What the calls of a shelf do, where it tells its files.
use Rattle.std.specs.Prelude.{◌≡◌, ◌≤◌, ◌⊎◌, List, [], ℕ, Option, None, Some, Result, Ok, Err, ⊤, IsErrOf, length, option_map, take}
use Rattle.odb_outside.specs.Outside.{Rose}
use Rattle.odb_outside.specs.Reading.{TakesNext}
use Rattle.odb_outside.specs.declared.fault.OpenFault.{OpenFault}
use Rattle.odb_outside.specs.declared.fault.OpenFault.TheVariants as opened
use Rattle.odb_outside.specs.declared.fault.WriteFault.{WriteFault}
use Rattle.odb_outside.specs.declared.fault.WriteFault.TheVariants as write
use Rattle.odb_outside.specs.declared.shelf.Hand.{Hand}
use Rattle.odb_outside.specs.declared.shelf.Hand.TheVariants as hand
use Rattle.odb_outside.specs.Files.{AreInOrder, File, file_of, with_file, with_more}

-- what a shelf tells: its files, the name of the one that is being written, and the bytes that are left of the one
-- that is being read
pub record Told : Type 0 where
  pub files : List File
  pub name : List ℕ
  pub left : List ℕ

-- these are the files
abbrev pub HasFiles : Option Told → List File → Type 0
HasFiles None files = ⊥
HasFiles (Some told) files = told.files ≡ files

-- the files, where they are told
abbrev pub files_told : Option Told → Option (List File)
files_told told = option_map (λ t. t.files) told

-- the files that are told stand in the order of their names, each name once
abbrev pub TellsInOrder : Option Told → Type 0
TellsInOrder None = ⊤
TellsInOrder (Some told) = AreInOrder told.files

-- no file changed, and the files are told as before
abbrev pub KeepsFiles : Option Told → Option Told → Type 0
KeepsFiles old new = files_told new ≡ files_told old

-- the file of this name is there, and all its bytes are left to be read
pub record IsOpen (old : Told) (name : List ℕ) (new : Option Told) : Type 0 where
  pub bytes : List ℕ
  pub found : file_of name old.files ≡ Some bytes
  pub told : new ≡ Some (record old { left = bytes })

abbrev pub OpensTold : Told → List ℕ → Result (Unit {0}) OpenFault → Option Told → Type 0
OpensTold old name (Ok done) new = IsOpen old name new
OpensTold old name (Err opened.NoFile) new = file_of name old.files ≡ None
OpensTold old name (Err opened.Failed) new = ⊤

-- what opening leaves; of files that aren't told nothing is said
abbrev pub Opens : Option Told → List ℕ → Result (Unit {0}) OpenFault → Option Told → Type 0
Opens None name result new = ⊤
Opens (Some old) name result new = OpensTold old name result new

-- the next bytes of the file in hand were read, and nothing else changed
pub record IsRead (old : Told) (new : Option Told) (n : ℕ) (piece : List ℕ) : Type 0 where
  pub left : List ℕ
  pub next : TakesNext old.left (Some left) n piece
  pub told : new ≡ Some (record old { left = left })

abbrev pub ReadsToldFile : {E : Type 0} → Told → Option Told → Result ℕ E → List ℕ → Type 0
ReadsToldFile old new (Ok n) piece = IsRead old new n piece
ReadsToldFile old new (Err e) piece = ⊤

-- what reading leaves
abbrev pub ReadsFile : {E : Type 0} → Option Told → Option Told → Result ℕ E → List ℕ → Type 0
ReadsFile None new result piece = ⊤
ReadsFile (Some old) new result piece = ReadsToldFile old new result piece

abbrev pub CreatesTold : Told → List ℕ → Result (Unit {0}) WriteFault → Option Told → Type 0
CreatesTold old name (Ok done) new = new ≡ Some (record { files = with_file name [] old.files; name = name; left = [] })
CreatesTold old name (Err write.Memory) new = new ≡ Some old
CreatesTold old name (Err write.Failed) new = HasFiles new old.files ⊎ HasFiles new (with_file name [] old.files)

-- what making a file leaves
abbrev pub Creates : Option Told → List ℕ → Result (Unit {0}) WriteFault → Option Told → Type 0
Creates None name result new = new ≡ None
Creates (Some old) name result new = CreatesTold old name result new

-- the files, where the one in hand has more
abbrev pub after_bytes : Told → List ℕ → List File
after_bytes old bytes = with_more old.name bytes old.files

-- a prefix of the piece was appended to the file in hand
pub record IsPartWritten (old : Told) (new : Option Told) (piece : List ℕ) : Type 0 where
  pub n : ℕ
  pub within : n ≤ length piece
  pub told : new ≡ Some (record old { files = after_bytes old (take n piece) })

abbrev pub WritesToldFile : Told → Option Told → Result ℕ WriteFault → List ℕ → Type 0
WritesToldFile old new (Ok n) piece = new ≡ Some (record old { files = after_bytes old (take n piece) })
WritesToldFile old new (Err write.Memory) piece = new ≡ Some old
WritesToldFile old new (Err write.Failed) piece = IsPartWritten old new piece

-- what writing leaves
abbrev pub WritesFile : Option Told → Option Told → Result ℕ WriteFault → List ℕ → Type 0
WritesFile None new result piece = new ≡ None
WritesFile (Some old) new result piece = WritesToldFile old new result piece

-- what is in hand after a call that was to take a file in hand, or to keep it there
abbrev pub in_hand : {T E : Type 0} → Hand → Result T E → Hand
in_hand h (Ok x) = h
in_hand h (Err e) = hand.Nothing

-- the same of a call that may want memory, and then leaves what was in hand
abbrev pub in_hand_written : {T : Type 0} → Hand → Hand → Result T WriteFault → Hand
in_hand_written before h (Ok x) = h
in_hand_written before h (Err write.Memory) = before
in_hand_written before h (Err write.Failed) = hand.Nothing

-- a count of faults never falls, and it rose where opening failed
pub record HasOpenCause {T : Type 0} (before now : ℕ) (result : Result T OpenFault) : Type 0 where
  pub later : before ≤ now
  pub failed : IsErrOf result opened.Failed → Rose before now
