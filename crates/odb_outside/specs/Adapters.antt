-- The file in hand of a shelf as a source and as a sink.
use Rattle.std.specs.Prelude.{Bool, true, false, List, ℕ, Option, None, option_map}
use Rattle.odb_outside.specs.declared.shelf.Hand.{Hand}
use Rattle.odb_outside.specs.declared.shelf.Hand.TheVariants as hand
use Rattle.odb_outside.specs.Files.{File, bytes_of, without_file}
use Rattle.odb_outside.specs.Shelves.{Told}

-- a file is in hand for reading
abbrev pub is_reading : Hand → Bool
is_reading hand.Reading = true
is_reading hand.Nothing = false
is_reading hand.Writing = false

-- a file is in hand for writing
abbrev pub is_writing : Hand → Bool
is_writing hand.Writing = true
is_writing hand.Nothing = false
is_writing hand.Reading = false

-- the bytes that are left of the file that is being read, where they are told
abbrev pub left_told : Hand → Option Told → Option (List ℕ)
left_told hand.Reading told = option_map (λ t. t.left) told
left_told hand.Nothing told = None
left_told hand.Writing told = None

-- the bytes of the file that is being written, where they are told
abbrev pub held_told : Option Told → Option (List ℕ)
held_told told = option_map (λ t. bytes_of t.name t.files) told

-- the name of the file that is being written, and the other files
pub record Others : Type 0 where
  pub name : List ℕ
  pub files : List File

abbrev pub others_of : Told → Others
others_of t = record { name = t.name; files = without_file t.name t.files }

abbrev pub others_told : Option Told → Option Others
others_told told = option_map others_of told
