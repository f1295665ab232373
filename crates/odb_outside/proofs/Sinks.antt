-- What a write to the file in hand does to its bytes and to the other files.
use Rattle.std.proofs.Common.{◌≡◌, ℕ, List, ◌++◌, Option, Some, None, Result, Ok, Err, sym, ap, take}
use Rattle.std.proofs.lemmas.List.{append-nil}
use Rattle.odb_outside.specs.declared.fault.WriteFault.{WriteFault}
use Rattle.odb_outside.specs.declared.fault.WriteFault.TheVariants as fault
use Rattle.odb_outside.specs.Adapters.{held_told, others_of, others_told}
use Rattle.odb_outside.specs.Files.{File, bytes_of}
use Rattle.odb_outside.specs.Shelves.{Told, WritesFile, after_bytes}
use Rattle.odb_outside.specs.Writing.{GrowsTo, Writes}
use Rattle.odb_outside.proofs.FileLaws.{more, others}

-- the shelf tells the file in hand with more bytes
abbrev with_bytes : Told → List ℕ → Told
with_bytes old bytes = record old { files = after_bytes old bytes }

grown : (old : Told) (new : Option Told) (bytes : List ℕ) → new ≡ Some (with_bytes old bytes) → GrowsTo (bytes_of old.name old.files) (held_told new) bytes
grown old new bytes is = rw is (more old.name bytes old.files)

pub writes_held : (old new : Option Told) (result : Result ℕ WriteFault) (piece : List ℕ) → WritesFile old new result piece → Writes (held_told old) (held_told new) result piece
writes_held None new (Ok n) piece is = tt
writes_held None new (Err fault.Failed) piece is = tt
writes_held None new (Err fault.Memory) piece is = tt
writes_held (Some old) new (Ok n) piece is = grown old new (take n piece) is
writes_held (Some old) new (Err fault.Failed) piece is = (is.n, is.within, grown old new (take is.n piece) is.told)
writes_held (Some old) new (Err fault.Memory) piece is = rw is (sym (append-nil (bytes_of old.name old.files)))

same-others : (old : Told) (new : Option Told) (bytes : List ℕ) → new ≡ Some (with_bytes old bytes) → others_told new ≡ Some (others_of old)
same-others old new bytes is =
    rw is (ap (λ (files : List File). Some (record { name = old.name; files = files })) (others old.name (bytes_of old.name old.files ++ bytes) old.files))

pub others_stay : (old new : Option Told) (result : Result ℕ WriteFault) (piece : List ℕ) → WritesFile old new result piece → others_told new ≡ others_told old
others_stay None new (Ok n) piece is = ap others_told is
others_stay None new (Err fault.Failed) piece is = ap others_told is
others_stay None new (Err fault.Memory) piece is = ap others_told is
others_stay (Some old) new (Ok n) piece is = same-others old new (take n piece) is
others_stay (Some old) new (Err fault.Failed) piece is = same-others old new (take is.n piece) is.told
others_stay (Some old) new (Err fault.Memory) piece is = ap others_told is
