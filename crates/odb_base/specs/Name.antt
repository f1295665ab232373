-- Which bytes are a name, and the first reason why others are none.
use Rattle.std.specs.Prelude.{◌≡◌, ◌==◌, ◌&&◌, ◌||◌, Bool, List, [], ◌∷◌, ℕ, Option, Some, None, if◌then◌else◌, not, nat_le, nat_lt, length, position, slice_index, codes}
use Rattle.std.specs.List.{list_any}
use Rattle.std.specs.Str.{bytes_eq}
use Rattle.odb_base.specs.declared.name.NameFault.{NameFault}
use Rattle.odb_base.specs.declared.name.NameFault.TheVariants as fault

-- a byte that may stand in a name: from `!` to `~`, and no `*`
abbrev pub is_name_byte : ℕ → Bool
is_name_byte b = nat_le 33 b && nat_le b 126 && not (b == 42)

-- the first byte is `#` or `"`
abbrev pub begins_badly : List ℕ → Bool
begins_badly bytes = slice_index bytes 0 == 35 || slice_index bytes 0 == 34

-- the first place of a byte that may not stand there
abbrev pub bad_place : List ℕ → Option ℕ
bad_place bytes = if begins_badly bytes then Some 0 else position (λ b. not (is_name_byte b)) bytes

-- marks that part the words of DEF
abbrev pub marks : List (List ℕ)
marks = codes ";" ∷ codes "(" ∷ codes ")" ∷ codes "+" ∷ codes "-" ∷ []

-- words that stand in the place of a name in the nets and paths of DEF
abbrev pub wiring_words : List (List ℕ)
wiring_words = codes "PIN" ∷ codes "NEW" ∷ codes "MUSTJOIN" ∷ codes "TAPER" ∷ codes "TAPERRULE"
    ∷ codes "STYLE" ∷ codes "MASK" ∷ codes "RECT" ∷ codes "VIRTUAL" ∷ codes "DO" ∷ []

-- the bytes are a word that LEF or DEF keeps for itself
abbrev pub is_reserved : List ℕ → Bool
is_reserved bytes = list_any (bytes_eq bytes) marks || list_any (bytes_eq bytes) wiring_words

abbrev pub reserved_fault : List ℕ → Option NameFault
reserved_fault bytes = if is_reserved bytes then Some fault.Reserved else None

abbrev pub byte_fault : List ℕ → Option ℕ → Option NameFault
byte_fault bytes (Some at) = Some (fault.BadByte at)
byte_fault bytes None = reserved_fault bytes

-- why the bytes are no name: the first reason
unfoldable pub name_fault : List ℕ → Option NameFault
name_fault bytes =
    if length bytes == 0 then Some fault.Empty
    else if nat_lt 4095 (length bytes) then Some fault.TooLong
    else byte_fault bytes (bad_place bytes)

-- the bytes are a name
abbrev pub IsName : List ℕ → Type 0
IsName bytes = name_fault bytes ≡ None
