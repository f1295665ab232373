-- Reading fields from an input, one after another.
use Rattle.std.specs.Prelude.{◌≡◌, ◌+◌, ◌++◌, List, ℕ, ℤ, Result, Ok, Err, if◌then◌else◌, drop, length, nat_lt, slice_index, take}
use Rattle.std.specs.Int.{w32, cast_signed}
use Rattle.byteorder.specs.Endian.{little_number}
use Rattle.odb_fields.specs.declared.get.Cut.{Cut}
use Rattle.odb_fields.specs.Bytes.{AreBytes}

-- an input, and how many of its bytes were read so far
pub record Cursor : Type 0 where
  pub bytes : List ℕ
  pub place : ℕ

-- the bytes from the place on
abbrev pub unread : Cursor → List ℕ
unread input = drop input.place input.bytes

-- the input with n more bytes read
abbrev pub past : ℕ → Cursor → Cursor
past n input = record input { place = input.place + n }

-- the fault of a field in which the input ends: it has the input's length
abbrev pub cut_of : Cursor → Cut
cut_of input = record { at = length input.bytes }

-- a reading, and then a second one which goes on with what the first gave
infixl 10 ◌>>=◌
abbrev pub ◌>>=◌ : {A B E : Type 0} → Result A E → (A → Result B E) → Result B E
(Ok x) >>= next = next x
(Err e) >>= next = Err e

-- a reading, whose fault a format tells in its own words
abbrev pub with_fault : {A E : Type 0} → (Cut → E) → Result A Cut → Result A E
with_fault told (Ok x) = Ok x
with_fault told (Err cut) = Err (told cut)

-- the next n bytes, and the place behind them; a fault where there are fewer
abbrev pub bytes_at : ℕ → Cursor → Result (List ℕ × Cursor) Cut
bytes_at n input = if nat_lt (length (unread input)) n then Err (cut_of input) else Ok (take n (unread input), past n input)

-- what the next n bytes mean, and the place behind them
abbrev pub value_at : {A : Type 0} → ℕ → (List ℕ → A) → Cursor → Result (A × Cursor) Cut
value_at n meaning input = do
  field ← bytes_at n input
  Ok (meaning field.0, field.1)

-- a number of one byte
unfoldable pub u8_at : Cursor → Result (ℕ × Cursor) Cut
u8_at input = value_at 1 (λ bytes. slice_index bytes 0) input

-- a number of four bytes, the lowest first
unfoldable pub u32_at : Cursor → Result (ℕ × Cursor) Cut
u32_at input = value_at 4 (little_number 4) input

-- a number of eight bytes, the lowest first
unfoldable pub u64_at : Cursor → Result (ℕ × Cursor) Cut
u64_at input = value_at 8 (little_number 8) input

-- a signed number of four bytes, the lowest first, in two's complement
unfoldable pub i32_at : Cursor → Result (ℤ × Cursor) Cut
i32_at input = value_at 4 (λ bytes. cast_signed w32 (little_number 4 bytes)) input

-- a text: a number of four bytes, and then so many bytes
unfoldable pub text_at : Cursor → Result (List ℕ × Cursor) Cut
text_at input = do
  count ← u32_at input
  bytes_at count.0 count.1

-- how many bytes the text at the place is to have
unfoldable pub text_length_at : Cursor → ℕ
text_length_at input = little_number 4 (unread input)

-- these bytes stand between the two places
pub record Takes (old : Cursor) (bytes : List ℕ) (new : Cursor) : Type 0 where
  pub parts : unread old ≡ bytes ++ unread new
  pub moved : new ≡ past (length bytes) old

-- where these bytes stand at the place, whatever follows them, reading gives the value and leaves what follows
abbrev pub ReadsBack : {A E : Type 0} → (Cursor → Result (A × Cursor) E) → List ℕ → A → Type 0
ReadsBack read bytes value = (input : Cursor) (rest : List ℕ) → unread input ≡ bytes ++ rest
    → (read input ≡ Ok (value, past (length bytes) input)) × (unread (past (length bytes) input) ≡ rest)

-- a value that is read fits, and what was taken is its bytes
abbrev pub ReadsOnly : {A E : Type 0} → (Cursor → Result (A × Cursor) E) → (A → List ℕ) → (A → Type 0) → Type 0
ReadsOnly {A = A} read bytes_of Fits = (old new : Cursor) (value : A) → AreBytes old.bytes → read old ≡ Ok (value, new)
    → Takes old (bytes_of value) new × Fits value
