-- LEF files that are read, where the shelf tells its files.
use Rattle.std.specs.Prelude.{◌≡◌, List, ℕ, Option, None, Some, ⊤}
use Rattle.odb_outside.specs.Files.{file_of}
use Rattle.odb_outside.specs.Shelves.{Told}
use Rattle.lef_files.specs.declared.outcome.LefFileRead.{LefFileRead}
use Rattle.lef_files.specs.declared.outcome.LefFileRead.TheVariants as read
use Rattle.lef_files.specs.Texts.{lef_file_of}

-- reading a file of these bytes gave this, where there may be no file
abbrev pub IsFileRead : Option (List ℕ) → LefFileRead → Type 0
IsFileRead None given = given ≡ read.NoFile
IsFileRead (Some bytes) given = given ≡ lef_file_of bytes

-- reading the file of a name gave this; of files that aren't told nothing is said
abbrev pub Reads : Option Told → List ℕ → LefFileRead → Type 0
Reads None name given = ⊤
Reads (Some told) name given = IsFileRead (file_of name told.files) given

-- reading a text of these bytes gave this; of bytes that aren't told nothing is said
abbrev pub IsTextRead : Option (List ℕ) → LefFileRead → Type 0
IsTextRead None given = ⊤
IsTextRead (Some bytes) given = given ≡ lef_file_of bytes
