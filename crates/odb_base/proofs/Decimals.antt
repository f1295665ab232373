-- Numbers of digits, one digit after another, and the room that they have below a power of ten.
use Rattle.std.proofs.Common.{◌≡◌, ℕ, suc, ◌+◌, ◌-◌, ◌*◌, ◌^◌, ◌≤◌, ◌<◌, true, List, [], ◌∷◌, length, drop, get_or, refl, arith}
use Rattle.std.proofs.lemmas.Bool.Decides.{nat_tests}
use Rattle.std.proofs.Math.Nat.{mul-le-mul_left, mul-le-mul_right, pow-le-pow_right, pow-suc}
use Rattle.odb_base.specs.Digits.{is_digit, with_digits}

-- a power of ten is at least 1
pub ten_some : (k : ℕ) → 1 ≤ 10 ^ k
ten_some k = let ten : 1 ≤ 10 = omega arith in pow-le-pow_right {n = 10} ten {i = 0} {j = k} (omega arith)

-- fewer digits have no more room
pub ten_bound : (k most : ℕ) → k ≤ most → 10 ^ k ≤ 10 ^ most
ten_bound k most le = let ten : 1 ≤ 10 = omega arith in pow-le-pow_right {n = 10} ten {i = k} {j = most} le

-- one more digit
room_step : (n d k room : ℕ) → d ≤ 9 → (n + 1) * 10 ^ suc k ≤ room → (n * 10 + d + 1) * 10 ^ k ≤ room
room_step n d k room digit fits =
    let le : n * 10 + d + 1 ≤ (n + 1) * 10 = omega arith in
    omega (arith, rw (pow-suc 10 k) at fits, mul-le-mul_right (10 ^ k) le)

-- one more digit goes on the number
pub digit_on : (n : ℕ) (digits : List ℕ) → 0 < length digits → is_digit (get_or digits 0 0) ≡ true
    → with_digits (n * 10 + (get_or digits 0 0 - 48)) (drop 1 digits) ≡ with_digits n digits
digit_on n [] some digit = absurd (omega (arith, some))
digit_on n (b ∷ digits) some digit = rw digit refl

-- the value of a digit
pub digit_value : (b : ℕ) → is_digit b ≡ true → b - 48 ≤ 9
digit_value b digit = grind (arith, nat_tests)

-- the room that is left behind one more digit
pub room_on : (n : ℕ) (digits : List ℕ) (room : ℕ) → 0 < length digits → is_digit (get_or digits 0 0) ≡ true → (n + 1) * 10 ^ length digits ≤ room
    → (n * 10 + (get_or digits 0 0 - 48) + 1) * 10 ^ length (drop 1 digits) ≤ room
room_on n [] room some digit fits = absurd (omega (arith, some))
room_on n (b ∷ digits) room some digit fits = room_step n (b - 48) (length digits) room (digit_value b digit) fits

-- a number that leaves room for one digit
pub room_one : (n : ℕ) (digits : List ℕ) (room : ℕ) → 0 < length digits → (n + 1) * 10 ^ length digits ≤ room → (n + 1) * 10 ≤ room
room_one n [] room some fits = absurd (omega (arith, some))
room_one n (b ∷ digits) room some fits = omega (arith, rw (pow-suc 10 (length digits)) at fits, mul-le-mul_left ((n + 1) * 10) (ten_some (length digits)))
