-- Numbers are read back, and have no second spelling.
use Rattle.std.proofs.Common.{◌≡◌, ℕ, ◌^◌, ◌<◌, ℤ, List, [], ◌∷◌, length, get_or, Ok, refl, ap, subst, ◌∙◌, arith}
use Rattle.std.specs.Prelude.{FitsSigned}
use Rattle.std.specs.Int.{w32, w64, cast_signed, cast_unsigned, from_le_bytes}
use Rattle.std.proofs.lemmas.Int.{to_z-of_z, of_z-to_z}
use Rattle.std.proofs.lemmas.Nat.{le_bytes_4, le_bytes_8}
use Rattle.std.proofs.Math.Facts.{Fits-of_z, sfits_to_z}
use Rattle.byteorder.specs.Endian.{little_number}
use Rattle.byteorder.specs.Numbers.{little_from-lt, little_number-reads_back}
use Rattle.odb_fields.specs.Bytes.{AreBytes}
use Rattle.odb_fields.specs.Fields.{u8_bytes, u32_bytes, u64_bytes, i32_bytes}
use Rattle.odb_fields.specs.Reading.{Cursor, ReadsBack, ReadsOnly, Takes, bytes_at, unread, value_at, u8_at, u32_at, u64_at, i32_at}
use Rattle.odb_fields.proofs.Inputs.{AreBytes-drop, AreBytes-take, bind_ok, bytes_back, bytes_only, made_back, ok_is}

-- ---- fields of one length

-- n bytes spell each value that fits, and each n bytes spell the value that they mean
record IsFixedField {A : Type 0} (n : ℕ) (Fits : A → Type 0) (spelling : A → List ℕ) (meaning : List ℕ → A) : Type 0 where
  len : (value : A) → length (spelling value) ≡ n
  meant : (value : A) → Fits value → meaning (spelling value) ≡ value
  fits : (bytes : List ℕ) → length bytes ≡ n → AreBytes bytes → Fits (meaning bytes)
  spelled : (bytes : List ℕ) → length bytes ≡ n → AreBytes bytes → spelling (meaning bytes) ≡ bytes

module _ {A : Type 0} (n : ℕ) (Fits : A → Type 0) (spelling : A → List ℕ) (meaning : List ℕ → A) (field : IsFixedField n Fits spelling meaning) where
  -- a value that fits is read back
  value_back : (value : A) → Fits value → ReadsBack (value_at n meaning) (spelling value) value
  value_back value fits =
      let bytes : ReadsBack (bytes_at n) (spelling value) (spelling value) = rw (← field.len value) (bytes_back (spelling value)) in
      let back = made_back (bytes_at n) meaning (spelling value) (spelling value) bytes in
      rw (field.meant value fits) at back

  -- a value that is read fits, and has no other bytes
  value_only : ReadsOnly (value_at n meaning) spelling Fits
  value_only old new value are e =
      let b = bind_ok (bytes_at n old) (λ p. Ok (meaning p.0, p.1)) (value, new) e in
      let bytes = b.0.0 in
      let t = bytes_only n old b.0.1 bytes b.1 in
      let field-are : AreBytes bytes = rw t.2 (AreBytes-take n (unread old) (AreBytes-drop old.place old.bytes are)) in
      let taken : Takes old (spelling (meaning bytes)) b.0.1 = rw (field.spelled bytes t.1 field-are) t.0 in
      let P : A × Cursor → Type 0 = λ p. Takes old (spelling p.0) p.1 × Fits p.0 in
      subst P (ok_is (meaning bytes, b.0.1) (value, new) b.2) (taken, field.fits bytes t.1 field-are)

-- ---- lengths

-- a number of one byte has one byte
pub length-u8_bytes : (n : ℕ) → length (u8_bytes n) ≡ 1
unfolding u8_bytes
length-u8_bytes n = refl

-- a number of four bytes has four
pub length-u32_bytes : (n : ℕ) → length (u32_bytes n) ≡ 4
unfolding u32_bytes
length-u32_bytes n = refl

-- a number of eight bytes has eight
pub length-u64_bytes : (n : ℕ) → length (u64_bytes n) ≡ 8
unfolding u64_bytes
length-u64_bytes n = refl

-- a signed number has four bytes
pub length-i32_bytes : (z : ℤ) → length (i32_bytes z) ≡ 4
unfolding i32_bytes
length-i32_bytes z = refl

-- ---- bytes as the spelling of what they mean

-- one byte spells the number that it means
pub u8_spelled : (bytes : List ℕ) → length bytes ≡ 1 → AreBytes bytes → u8_bytes (get_or bytes 0 0) ≡ bytes
unfolding u8_bytes
u8_spelled [] len are = absurd (omega (arith, len))
u8_spelled (b ∷ []) len are = refl
u8_spelled (b ∷ c ∷ bytes) len are = absurd (omega (arith, len))

-- both words for the number in four bytes say the same
four_bytes : (bytes : List ℕ) → little_number 4 bytes ≡ from_le_bytes w32 bytes
four_bytes bytes = omega arith

-- both words for the number in eight bytes say the same
eight_bytes : (bytes : List ℕ) → little_number 8 bytes ≡ from_le_bytes w64 bytes
eight_bytes bytes = omega arith

-- four bytes spell the number that they mean
pub u32_spelled : (bytes : List ℕ) → length bytes ≡ 4 → AreBytes bytes → u32_bytes (little_number 4 bytes) ≡ bytes
unfolding u32_bytes
u32_spelled bytes len are = le_bytes_4 bytes (little_number 4 bytes) len are (four_bytes bytes)

-- eight bytes spell the number that they mean
pub u64_spelled : (bytes : List ℕ) → length bytes ≡ 8 → AreBytes bytes → u64_bytes (little_number 8 bytes) ≡ bytes
unfolding u64_bytes
u64_spelled bytes len are = le_bytes_8 bytes (little_number 8 bytes) len are (eight_bytes bytes)

-- four bytes are below 2 ^ 32
four_below : (bytes : List ℕ) → AreBytes bytes → little_number 4 bytes < 2 ^ 32
four_below bytes are = little_from-lt 0 4 bytes are

-- four bytes spell the signed number that they mean
pub i32_spelled : (bytes : List ℕ) → length bytes ≡ 4 → AreBytes bytes → i32_bytes (cast_signed w32 (little_number 4 bytes)) ≡ bytes
unfolding i32_bytes u32_bytes
i32_spelled bytes len are = ap u32_bytes (of_z-to_z w32 (little_number 4 bytes) (four_below bytes are)) ∙ u32_spelled bytes len are

-- four bytes mean a signed number of 32 bits
pub i32_fits : (bytes : List ℕ) → length bytes ≡ 4 → AreBytes bytes → FitsSigned w32 (cast_signed w32 (little_number 4 bytes))
i32_fits bytes len are = sfits_to_z (record { fits = four_below bytes are })

-- ---- each number

-- numbers of one byte
u8_field : IsFixedField 1 (λ n. n < 2 ^ 8) u8_bytes (λ bytes. get_or bytes 0 0)
unfolding u8_bytes
u8_field = record { len = λ n. refl; meant = λ n lt. refl; fits = λ bytes len are. are 0; spelled = u8_spelled }

-- numbers of four bytes
u32_field : IsFixedField 4 (λ n. n < 2 ^ 32) u32_bytes (little_number 4)
unfolding u32_bytes
u32_field = record {
  len = λ n. refl;
  meant = λ n lt. little_number-reads_back 4 n [] lt;
  fits = λ bytes len are. four_below bytes are;
  spelled = u32_spelled;
}

-- numbers of eight bytes
u64_field : IsFixedField 8 (λ n. n < 2 ^ 64) u64_bytes (little_number 8)
unfolding u64_bytes
u64_field = record {
  len = λ n. refl;
  meant = λ n lt. little_number-reads_back 8 n [] lt;
  fits = λ bytes len are. little_from-lt 0 8 bytes are;
  spelled = u64_spelled;
}

-- a signed number is what its bytes mean
i32_meant : (z : ℤ) → FitsSigned w32 z → cast_signed w32 (little_number 4 (i32_bytes z)) ≡ z
unfolding i32_bytes
i32_meant z fits =
    let below : cast_unsigned w32 z < 2 ^ 32 = omega (arith, Fits-of_z fits) in
    ap (cast_signed w32) (little_number-reads_back 4 (cast_unsigned w32 z) [] below) ∙ to_z-of_z w32 z fits

-- signed numbers of four bytes
i32_field : IsFixedField 4 (FitsSigned w32) i32_bytes (λ bytes. cast_signed w32 (little_number 4 bytes))
unfolding i32_bytes
i32_field = record { len = λ z. refl; meant = i32_meant; fits = i32_fits; spelled = i32_spelled }

-- a number of one byte is read back
pub u8_back : (n : ℕ) → n < 2 ^ 8 → ReadsBack u8_at (u8_bytes n) n
unfolding u8_at
u8_back = value_back 1 _ u8_bytes _ u8_field

-- a number of one byte has no second spelling
pub u8_only : ReadsOnly u8_at u8_bytes (λ n. n < 2 ^ 8)
unfolding u8_at
u8_only = value_only 1 _ u8_bytes _ u8_field

-- a number of four bytes is read back
pub u32_back : (n : ℕ) → n < 2 ^ 32 → ReadsBack u32_at (u32_bytes n) n
unfolding u32_at
u32_back = value_back 4 _ u32_bytes _ u32_field

-- a number of four bytes has no second spelling
pub u32_only : ReadsOnly u32_at u32_bytes (λ n. n < 2 ^ 32)
unfolding u32_at
u32_only = value_only 4 _ u32_bytes _ u32_field

-- a number of eight bytes is read back
pub u64_back : (n : ℕ) → n < 2 ^ 64 → ReadsBack u64_at (u64_bytes n) n
unfolding u64_at
u64_back = value_back 8 _ u64_bytes _ u64_field

-- a number of eight bytes has no second spelling
pub u64_only : ReadsOnly u64_at u64_bytes (λ n. n < 2 ^ 64)
unfolding u64_at
u64_only = value_only 8 _ u64_bytes _ u64_field

-- a signed number is read back
pub i32_back : (z : ℤ) → FitsSigned w32 z → ReadsBack i32_at (i32_bytes z) z
unfolding i32_at
i32_back = value_back 4 _ i32_bytes _ i32_field

-- a signed number has no second spelling
pub i32_only : ReadsOnly i32_at i32_bytes (FitsSigned w32)
unfolding i32_at
i32_only = value_only 4 _ i32_bytes _ i32_field
