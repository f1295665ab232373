-- The hash of a name, and the bucket to which it belongs.
use Rattle.std.specs.Prelude.{◌*◌, ◌/◌, ◌%◌, ◌^◌, List, ℕ, bit_xor, length, slice_index}
use Rattle.std.specs.List.{fold}

-- one more byte is hashed
abbrev pub with_byte : ℕ → ℕ → ℕ
with_byte hash byte = bit_xor hash byte * 1099511628211 % 2 ^ 64

-- the 64-bit FNV-1a hash of the bytes
unfoldable pub hash : List ℕ → ℕ
hash name = fold with_byte 14695981039346656037 name

-- which of so many buckets a name belongs to: its hash with the upper half folded onto the lower, modulo the number
unfoldable pub bucket_at : ℕ → List ℕ → ℕ
bucket_at buckets name = bit_xor (hash name) (hash name / 2 ^ 32) % buckets

-- the bucket of a name, where these are the first identifiers of the buckets
abbrev pub bucket_of : List ℕ → List ℕ → ℕ
bucket_of heads name = bucket_at (length heads) name

-- the first identifier in the bucket of a name, 0 for none
abbrev pub first_of : List ℕ → List ℕ → ℕ
first_of heads name = slice_index heads (bucket_of heads name)
