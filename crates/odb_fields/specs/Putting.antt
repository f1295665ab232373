-- What a `Put` does to its vector.
use Rattle.std.specs.Prelude.{◌≡◌, List, ℕ}
use Rattle.std.specs.Borrow.{MutBor}
use Rattle.std.specs.Global.{Vec}
use Rattle.odb_fields.specs.declared.put.Put.{Put}

-- the bytes of the vector
abbrev pub bytes_in : Put → List ℕ
bytes_in put = put.out.now.items

-- the vector is the one behind this reference
abbrev pub IsOver : Put → MutBor (Vec ℕ) → Type 0
IsOver put vector = put.out.ghost_name ≡ vector.ghost_name

-- the vector is still the same one
abbrev pub KeepsVector : Put → Put → Type 0
KeepsVector old new = new.out.ghost_name ≡ old.out.ghost_name
