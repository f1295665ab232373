-- Facts on the files of a shelf, where it tells them.
use Rattle.std.specs.Prelude.{List, Option, None, Some, ⊤}
use Rattle.odb_outside.specs.Files.{File}

-- The fact holds of the files before and after. Where they aren't told before, nothing is said; told before, they are
-- told after.
abbrev pub WhereTold : Option (List File) → Option (List File) → (List File → List File → Type 0) → Type 0
WhereTold None is P = ⊤
WhereTold (Some was) None P = ⊥
WhereTold (Some was) (Some is) P = P was is

-- the fact holds of the files
abbrev pub IfTold : Option (List File) → (List File → Type 0) → Type 0
IfTold None P = ⊤
IfTold (Some files) P = P files
