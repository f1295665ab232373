-- Where a file stands among files. Contracts inside the crate cite it.
use Rattle.std.specs.Prelude.{◌≡◌, ◌<◌, ◌≤◌, ◌+◌, List, [], ◌∷◌, ℕ, None, Some, Result, Ok, Err, length, slice_get, slice_set}
use Rattle.std.specs.List.{insert}
use Rattle.std.specs.Option.{option_map_or}
use Rattle.std.specs.Ordering.{match_ordering, nat_cmp}
use Rattle.std.specs.Cmp.Lexicographic.{slice_cmp}
use Rattle.odb_outside.specs.Files.{File, file, file_of, with_file}

-- the place of the file of a name, or else the one where it would stand; the first of these files has place k
abbrev pub place_in : List ℕ → List File → ℕ → Result ℕ ℕ
place_in name [] k = Err k
place_in name (f ∷ files) k = match_ordering (slice_cmp nat_cmp name f.name) (Err k) (Ok k) (place_in name files (k + 1))

-- the bytes of the file at a place
abbrev pub bytes_at : ℕ → List File → List ℕ
bytes_at at files = option_map_or (λ f. f.bytes) (slice_get files at) []

-- The file of the name stands at this place: its bytes are that file's, and giving it others changes this place
-- alone.
pub record IsFound (name : List ℕ) (files : List File) (at : ℕ) : Type 0 where
  pub within : at < length files
  pub stored : file_of name files ≡ Some (bytes_at at files)
  pub named : (f : File) → slice_get files at ≡ Some f → f.name ≡ name
  pub holds : (f : File) → slice_get files at ≡ Some f → file_of name files ≡ Some f.bytes
  pub changed : (bytes : List ℕ) → with_file name bytes files ≡ slice_set files at (file name bytes)

-- there is no file of the name, and a new one stands at this place
pub record IsGap (name : List ℕ) (files : List File) (at : ℕ) : Type 0 where
  pub within : at ≤ length files
  pub missing : file_of name files ≡ None
  pub entered : (bytes : List ℕ) → with_file name bytes files ≡ insert files at (file name bytes)

-- the file of the name stands at the place, or else would stand there
abbrev pub IsPlace : List ℕ → List File → Result ℕ ℕ → Type 0
IsPlace name files (Ok at) = IsFound name files at
IsPlace name files (Err at) = IsGap name files at
