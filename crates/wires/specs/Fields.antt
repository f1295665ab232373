-- Reading one field of a code, with a rule on its value.
use Rattle.std.specs.Prelude.{◌≡◌, ◌&&◌, ◌||◌, ◌==◌, Bool, List, ℕ, ℤ, pos, Result, Ok, Err, if◌then◌else◌, is_none, length, nat_le}
use Rattle.std.specs.Int.Signed.{le_z}
use Rattle.odb_fields.specs.declared.get.Cut.{Cut}
use Rattle.odb_fields.specs.Reading.{Cursor}
use Rattle.odb_base.specs.Name.{name_fault}
use Rattle.wires.specs.declared.fields.TextSort.{TextSort}
use Rattle.wires.specs.declared.fields.TextSort.TheVariants as sort
use Rattle.wires.specs.declared.fault.WireFault.{WireFault}
use Rattle.wires.specs.declared.fault.WireFault.TheVariants as fault

-- the number is one of these
abbrev pub is_between : ℕ → ℕ → ℕ → Bool
is_between least most n = nat_le least n && nat_le n most

-- the number is at least this and within the limit of coordinates
abbrev pub is_from_to : ℤ → ℤ → Bool
is_from_to least z = le_z least z && le_z z (pos 2000000000)

-- the bytes are a name
abbrev pub is_name : List ℕ → Bool
is_name bytes = is_none (name_fault bytes)

-- the text may stand in a field of this sort
abbrev pub text_fits : TextSort → List ℕ → Bool
text_fits sort.Empty bytes = length bytes == 0
text_fits sort.Name bytes = is_name bytes
text_fits sort.NameOrEmpty bytes = length bytes == 0 || is_name bytes

-- a field that was read, under a rule on its value; its fault names the place at which it begins
abbrev pub judged : {A : Type 0} → (A → Bool) → Cursor → Result (A × Cursor) Cut → Result (A × Cursor) WireFault
judged fits input (Ok p) = if fits p.0 then Ok p else Err (fault.At input.place)
judged fits input (Err cut) = Err (fault.At input.place)

-- the field at the place, under a rule on its value
unfoldable pub field_at : {A : Type 0} → (Cursor → Result (A × Cursor) Cut) → (A → Bool) → Cursor → Result (A × Cursor) WireFault
field_at read fits input = judged fits input (read input)

-- what a call answered is what reading gives, seen by a view, and it left the input where reading ends
abbrev pub Reads : {X Y : Type 0} → (X → Y) → Result X WireFault → Result (Y × Cursor) WireFault → Cursor → Type 0
Reads view (Ok x) read after = read ≡ Ok (view x, after)
Reads view (Err f) read after = read ≡ Err f
