-- Texts are read back, and have no second spelling.
use Rattle.std.proofs.Common.{◌≡◌, ℕ, ◌+◌, ◌-◌, ◌^◌, ◌<◌, ◌≤◌, List, length, take, drop, sym, ap, ◌∙◌, arith}
use Rattle.std.proofs.Math.Seq.{take-length}
use Rattle.std.proofs.lemmas.List.{take_at, take-append-le, take-append-drop, length-append, length-drop}
use Rattle.byteorder.specs.Endian.{little_number}
use Rattle.odb_fields.specs.Bytes.{AreBytes}
use Rattle.odb_fields.specs.Fields.{text_bytes, u32_bytes}
use Rattle.odb_fields.specs.Reading.{Cursor, ReadsBack, ReadsOnly, Takes, bytes_at, text_at, u32_at, unread}
use Rattle.odb_fields.proofs.Inputs.{Takes-append, bind_ok, bytes_back, bytes_only, then_back}
use Rattle.odb_fields.proofs.Numbers.{length-u32_bytes, u32_back, u32_only, u32_spelled}

-- a text has its bytes and four more
pub length-text_bytes : (bytes : List ℕ) → length (text_bytes bytes) ≡ 4 + length bytes
unfolding text_bytes
length-text_bytes bytes = omega (arith, length-append (u32_bytes (length bytes)) bytes, length-u32_bytes (length bytes))

-- a text is read back
pub text_back : (bytes : List ℕ) → length bytes < 2 ^ 32 → ReadsBack text_at (text_bytes bytes) bytes
unfolding text_at text_bytes
text_back bytes lt =
    then_back u32_at bytes_at (u32_bytes (length bytes)) bytes (length bytes) bytes (u32_back (length bytes) lt) (bytes_back bytes)

-- a text has no second spelling
pub text_only : ReadsOnly text_at text_bytes (λ bytes. length bytes < 2 ^ 32)
unfolding text_at text_bytes
text_only old new bytes are e =
    let b = bind_ok (u32_at old) (λ p. bytes_at p.0 p.1) (bytes, new) e in
    let count = u32_only old b.0.1 b.0.0 are b.1 in
    let text = bytes_only b.0.0 b.0.1 new bytes b.2 in
    rw text.1 (Takes-append old b.0.1 new (u32_bytes b.0.0) bytes count.0 text.0, count.1)

-- 4 + count bytes, of which the first four mean count, spell the text of the others
pub text_spelled : (old next new : Cursor) (head field : List ℕ) (count : ℕ) → Takes old head next → length head ≡ 4 → AreBytes head → count ≡ little_number 4 head
    → Takes old field new → length field ≡ 4 + count → text_bytes (take (length field - 4) (drop 4 field)) ≡ field
unfolding text_bytes
text_spelled old next new head field count first len are count-is whole whole-len =
    let four : 4 ≤ length field = omega arith in
    let head-is : head ≡ take 4 field = sym (take_at head (unread next) 4 len) ∙ ap (take 4) (sym first.parts ∙ whole.parts) ∙ take-append-le 4 field (unread new) four in
    let text-is : take (length field - 4) (drop 4 field) ≡ drop 4 field = ap (λ (n : ℕ). take n (drop 4 field)) (sym (length-drop 4 field)) ∙ take-length (drop 4 field) in
    let text-len : length (drop 4 field) ≡ count = omega (arith, length-drop 4 field) in
    let count-spelled : u32_bytes count ≡ head = rw count-is (u32_spelled head len are) in
    rw (text-is, text-len, count-spelled, head-is) (take-append-drop 4 field)
