-- The bytes of each field. Numbers stand with their lowest byte first.
use Rattle.std.specs.Prelude.{List, [], ◌∷◌, ◌++◌, ℕ, ℤ, length}
use Rattle.std.specs.Int.{w32, cast_unsigned}
use Rattle.byteorder.specs.Endian.{little_bytes}

-- a number of one byte
unfoldable pub u8_bytes : ℕ → List ℕ
u8_bytes n = n ∷ []

-- a number of four bytes
unfoldable pub u32_bytes : ℕ → List ℕ
u32_bytes n = little_bytes 4 n

-- a number of eight bytes
unfoldable pub u64_bytes : ℕ → List ℕ
u64_bytes n = little_bytes 8 n

-- a signed number of four bytes, as two's complement
unfoldable pub i32_bytes : ℤ → List ℕ
i32_bytes z = little_bytes 4 (cast_unsigned w32 z)

-- a text: the number of its bytes, and the bytes
unfoldable pub text_bytes : List ℕ → List ℕ
text_bytes bytes = u32_bytes (length bytes) ++ bytes
