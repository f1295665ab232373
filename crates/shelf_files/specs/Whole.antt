-- Files that are read and written whole, where the shelf tells its files.
use Rattle.std.specs.Prelude.{◌≡◌, ◌<◌, ◌≤◌, ◌⊎◌, List, ℕ, Option, None, Some, ⊤, length, take}
use Rattle.odb_outside.specs.Files.{File, file_of, with_file}
use Rattle.odb_outside.specs.Shelves.{Told}
use Rattle.shelf_files.specs.declared.reading.FileRead.{FileRead}
use Rattle.shelf_files.specs.declared.reading.FileRead.TheVariants as read

-- reading a file of these bytes gave this
abbrev pub IsReadWhole : List ℕ → FileRead → Type 0
IsReadWhole bytes (read.Bytes given) = (given.items ≡ bytes) × (length bytes ≤ 4294967295)
IsReadWhole bytes read.NoFile = ⊥
IsReadWhole bytes read.TooLong = 4294967295 < length bytes

-- the same, where there may be no file
abbrev pub IsFileRead : Option (List ℕ) → FileRead → Type 0
IsFileRead (Some bytes) given = IsReadWhole bytes given
IsFileRead None (read.Bytes given) = ⊥
IsFileRead None read.NoFile = ⊤
IsFileRead None read.TooLong = ⊥

-- reading the file of a name gave this; of files that aren't told nothing is said
abbrev pub Reads : Option Told → List ℕ → FileRead → Type 0
Reads None name given = ⊤
Reads (Some told) name given = IsFileRead (file_of name told.files) given

-- reading the rest of the file in hand gave this
abbrev pub IsRestRead : Option Told → FileRead → Type 0
IsRestRead None given = ⊤
IsRestRead (Some told) given = IsReadWhole told.left given

-- the files are these
abbrev pub AreNow : Option (List File) → List File → Type 0
AreNow None files = ⊥
AreNow (Some now) files = now ≡ files

-- the file of the name has just these bytes, and no other file changed
abbrev pub Writes : Option (List File) → List ℕ → List ℕ → Option (List File) → Type 0
Writes None name bytes now = ⊤
Writes (Some was) name bytes now = AreNow now (with_file name bytes was)

-- the file of the name has a prefix of these bytes, and no other file changed
pub record HasPrefix (was : List File) (name bytes : List ℕ) (now : Option (List File)) : Type 0 where
  pub count : ℕ
  pub within : count ≤ length bytes
  pub files : AreNow now (with_file name (take count bytes) was)

-- the same, or no file changed
abbrev pub WritesPart : Option (List File) → List ℕ → List ℕ → Option (List File) → Type 0
WritesPart None name bytes now = ⊤
WritesPart (Some was) name bytes now = AreNow now was ⊎ HasPrefix was name bytes now
