-- Files by name.
use Rattle.std.specs.Prelude.{◌++◌, List, [], ◌∷◌, ℕ, Option, None, Some, map, unwrap_or}
use Rattle.std.specs.List.Sorted.{IsStrictlySortedBy}
use Rattle.std.specs.Ordering.{match_ordering, nat_cmp}
use Rattle.std.specs.Cmp.Lexicographic.{slice_cmp}

-- a file: its name, and its bytes
pub record File : Type 0 where
  pub name : List ℕ
  pub bytes : List ℕ

-- the files stand in the order of their names, each name once
abbrev pub AreInOrder : List File → Type 0
AreInOrder files = IsStrictlySortedBy (slice_cmp nat_cmp) (map (λ f. f.name) files)

-- the bytes of the file of a name, if there is one, where files stand in the order of their names
abbrev pub file_of : List ℕ → List File → Option (List ℕ)
file_of name [] = None
file_of name (f ∷ files) = match_ordering (slice_cmp nat_cmp name f.name) None (Some f.bytes) (file_of name files)

abbrev pub file : List ℕ → List ℕ → File
file name bytes = record { name = name; bytes = bytes }

-- the files, where that of this name has these bytes
abbrev pub with_file : List ℕ → List ℕ → List File → List File
with_file name bytes [] = file name bytes ∷ []
with_file name bytes (f ∷ files) =
    match_ordering (slice_cmp nat_cmp name f.name) (file name bytes ∷ f ∷ files) (file name bytes ∷ files) (f ∷ with_file name bytes files)

-- the bytes of a file, none where there is no such file
abbrev pub bytes_of : List ℕ → List File → List ℕ
bytes_of name files = unwrap_or (file_of name files) []

-- the files, where that of this name has these bytes more
abbrev pub with_more : List ℕ → List ℕ → List File → List File
with_more name bytes files = with_file name (bytes_of name files ++ bytes) files

-- the files without that of this name
abbrev pub without_file : List ℕ → List File → List File
without_file name [] = []
without_file name (f ∷ files) = match_ordering (slice_cmp nat_cmp name f.name) (f ∷ files) files (f ∷ without_file name files)
