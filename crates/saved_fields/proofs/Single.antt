-- Codecs of single fields.
use Rattle.std.proofs.Common.{◌≡◌, ◌<◌, ◌^◌, Bool, true, false, cond, eqb, ℕ, ℤ, List, [], ◌∷◌, length, Some, Ok, refl, sym, arith, inl, inr}
use Rattle.std.specs.Prelude.{FitsSigned}
use Rattle.std.specs.Int.{w32}
use Rattle.std.specs.List.{find}
use Rattle.std.specs.Str.{bytes_eq}
use Rattle.std.proofs.lemmas.Bool.{cases_Bool, eqb-true}
use Rattle.odb_fields.specs.Fields.{i32_bytes, text_bytes, u32_bytes, u8_bytes}
use Rattle.odb_fields.specs.Reading.{Cursor, bytes_at, i32_at, u32_at, u8_at}
use Rattle.odb_fields.proofs.Inputs.{bind_ok, bytes_back, bytes_only, with_fault_back, with_fault_ok}
use Rattle.odb_fields.proofs.Numbers.{i32_back, i32_only, u32_back, u32_only, u8_back, u8_only}
use Rattle.saved_fields.specs.Fault as fault
use Rattle.saved_fields.specs.Fields.{coded, coded_at, distance_at, flag_at, flag_of, id_at, is_between, is_name, name_at, number_at, small_at, such, text_at, word_at}
use Rattle.saved_fields.specs.Reading.{Reading, given, judged, plain}
use Rattle.saved_fields.specs.Lawful.{IsDistance, IsId, IsNameText, IsNumber, IsSmall, IsText, IsWord}
use Rattle.saved_fields.proofs.FaultPlaces.{bytes_stay, i32_stays, plain_stays, u32_stays, u8_stays}
use Rattle.saved_fields.proofs.Codec.{IsCodec, by_codec, given_ok, judged_codec, plain_codec}

-- ---- fields as they stand

pub u8_codec : IsCodec (plain u8_at) u8_bytes (λ n. n < 2 ^ 8)
u8_codec = plain_codec u8_at u8_bytes (λ n. n < 2 ^ 8) u8_back u8_only u8_stays

pub u32_codec : IsCodec (plain u32_at) u32_bytes (λ n. n < 2 ^ 32)
u32_codec = plain_codec u32_at u32_bytes (λ n. n < 2 ^ 32) u32_back u32_only u32_stays

i32_codec : IsCodec (plain i32_at) i32_bytes (FitsSigned w32)
i32_codec = plain_codec i32_at i32_bytes (FitsSigned w32) i32_back i32_only i32_stays

-- ---- fields under a rule

pub such_is : {A : Type 0} (passes : A → Bool) (x y : A) → such passes x ≡ Some y → x ≡ y
such_is passes x y e = elim (cases_Bool (passes x)) [
  | inl t ↦ (let h = rw t at e in cc)
  | inr f ↦ absurd (let h = rw f at e in cc)
]

such_true : {A : Type 0} (passes : A → Bool) (x y : A) → such passes x ≡ Some y → passes y ≡ true
such_true passes x y e = elim (cases_Bool (passes x)) [
  | inl t ↦ (let h : x ≡ y = (let g = rw t at e in cc) in rw h at t)
  | inr f ↦ absurd (let h = rw f at e in cc)
]

-- what was read passes
pub such_passes : {A : Type 0} (passes : A → Bool) (reads : Reading A) (old new : Cursor) (x : A) → judged (such passes) reads old ≡ Ok (x, new) → passes x ≡ true
such_passes {A} passes reads old new x e =
    let u = bind_ok (reads old) (λ p. given old.place (such passes p.0) p.1) (x, new) e in
    let g = given_ok old.place (such passes u.0.0) u.0.1 new x u.2 in
    such_true passes u.0.0 x g.0

pub such_codec : {A : Type 0} (passes : A → Bool) (reads : Reading A) (writes : A → List ℕ) (Fits : A → Type 0)
    → IsCodec reads writes Fits → IsCodec (judged (such passes) reads) writes (λ x. (passes x ≡ true) × Fits x)
such_codec passes reads writes Fits codec =
    judged_codec (such passes) (λ x. x) reads writes Fits (λ x. (passes x ≡ true) × Fits x) (λ y fits. rw fits.0 refl) (such_is passes) (λ y fits. fits.1) codec

pub id_codec : IsCodec id_at u32_bytes IsId
unfolding id_at
id_codec = u32_codec

pub number_codec : (least most : ℕ) → IsCodec (number_at least most) u32_bytes (IsNumber least most)
unfolding number_at
number_codec least most = such_codec (is_between least most) (plain u32_at) u32_bytes (λ n. n < 2 ^ 32) u32_codec

pub small_codec : (most : ℕ) → IsCodec (small_at most) u8_bytes (IsSmall most)
unfolding small_at
small_codec most = such_codec (is_between 0 most) (plain u8_at) u8_bytes (λ n. n < 2 ^ 8) u8_codec

pub distance_codec : (passes : ℤ → Bool) → IsCodec (distance_at passes) i32_bytes (IsDistance passes)
unfolding distance_at
distance_codec passes = such_codec passes (plain i32_at) i32_bytes (FitsSigned w32) i32_codec

-- ---- sets

-- the number of a flag
abbrev pub flag_number : Bool → ℕ
flag_number b = cond b 1 0

flag_again : (b : Bool) → flag_of (flag_number b) ≡ Some b
flag_again true = refl
flag_again false = refl

flag_is : (n : ℕ) (b : Bool) → flag_of n ≡ Some b → n ≡ flag_number b
flag_is n b e = elim (cases_Bool (eqb n 0)) [
  | inl zero ↦ (let h : b ≡ false = (let g = rw zero at e in cc) in rw h (eqb-true n 0 zero))
  | inr some ↦ elim (cases_Bool (eqb n 1)) [
    | inl one ↦ (let h : b ≡ true = (let g = rw (some, one) at e in cc) in rw h (eqb-true n 1 one))
    | inr more ↦ absurd (let g = rw (some, more) at e in cc)
  ]
]

flag_fits : (b : Bool) → flag_number b < 2 ^ 8
flag_fits true = omega arith
flag_fits false = omega arith

pub flag_codec : IsCodec flag_at (λ b. u8_bytes (flag_number b)) (λ b. Unit {0})
unfolding flag_at
flag_codec = judged_codec flag_of flag_number (plain u8_at) u8_bytes (λ n. n < 2 ^ 8) (λ b. Unit {0}) (λ b fits. flag_again b) flag_is (λ b fits. flag_fits b) u8_codec

find_passes : {A : Type 0} (test : A → Bool) (xs : List A) (x : A) → find test xs ≡ Some x → test x ≡ true
find_passes test [] x e = absurd cc
find_passes test (y ∷ ys) x e = elim (cases_Bool (test y)) [
  | inl t ↦ (let h : y ≡ x = (let g = rw t at e in cc) in rw h at t)
  | inr f ↦ find_passes test ys x (rw f at e)
]

-- each value of a set is that of its code, which has eight bits
pub record IsSet {A : Type 0} (code_of : A → ℕ) (every : List A) : Type 0 where
  pub again : (x : A) → coded code_of every (code_of x) ≡ Some x
  pub small : (x : A) → code_of x < 2 ^ 8

pub coded_codec : {A : Type 0} (code_of : A → ℕ) (every : List A) → IsSet code_of every → IsCodec (coded_at code_of every) (λ x. u8_bytes (code_of x)) (λ x. Unit {0})
unfolding coded_at
coded_codec code_of every set =
    judged_codec (coded code_of every) code_of (plain u8_at) u8_bytes (λ n. n < 2 ^ 8) (λ x. Unit {0})
    (λ x fits. set.again x)
    (λ code x e. sym (eqb-true (code_of x) code (find_passes (λ value. eqb (code_of value) code) every x e)))
    (λ x fits. set.small x)
    u8_codec

-- ---- texts

pub text_codec : (least most : ℕ) → IsCodec (text_at least most) text_bytes (IsText least most)
unfolding text_at text_bytes
text_codec least most =
    by_codec (number_at least most) (λ count. plain (bytes_at count)) u32_bytes (λ bytes. bytes) (IsNumber least most) (λ bytes. Unit {0}) length
    (number_codec least most)
    (λ bytes fits. with_fault_back (λ cut. fault.Cut cut.at) (bytes_at (length bytes)) bytes bytes (bytes_back bytes))
    (λ count old new bytes e. sym (bytes_only count old new bytes (with_fault_ok (λ cut. fault.Cut cut.at) (bytes_at count old) (bytes, new) e)).1)
    (λ count old new bytes are e fits. (bytes_only count old new bytes (with_fault_ok (λ cut. fault.Cut cut.at) (bytes_at count old) (bytes, new) e)).0)
    (λ count. plain_stays (bytes_at count) (bytes_stay count))

pub name_codec : IsCodec name_at text_bytes IsNameText
unfolding name_at
name_codec = such_codec is_name (text_at 1 4095) text_bytes (IsText 1 4095) (text_codec 1 4095)

pub word_codec : (word : List ℕ) → IsCodec (word_at word) text_bytes (IsWord word)
unfolding word_at
word_codec word = such_codec (bytes_eq word) (text_at (length word) (length word)) text_bytes (IsText (length word) (length word)) (text_codec (length word) (length word))
