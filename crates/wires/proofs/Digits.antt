-- Numbers of digits, one digit after another.
use Rattle.std.proofs.Common.{◌≡◌, ℕ, ◌+◌, ◌-◌, ◌*◌, ◌≤◌, ◌<◌, true, false, List, [], ◌∷◌, None, length, drop, get_or, leb, fold, refl, arith}
use Rattle.std.proofs.lemmas.Bool.{and_right, lt-leb}
use Rattle.std.specs.List.{list_all}
use Rattle.odb_base.specs.Digits.{is_digit, with_digit}
use Rattle.wires.specs.PathWords.{number_with}

-- more digits make no number less
fold_more : (n : ℕ) (digits : List ℕ) → n ≤ fold with_digit n digits
fold_more n [] = omega arith
fold_more n (b ∷ digits) = omega (arith, fold_more (n * 10 + (b - 48)) digits)

-- a number beyond the limit stays so
pub beyond : (n : ℕ) (digits : List ℕ) → 2000000000 < n → number_with n digits ≡ None
beyond n digits far =
    let more = fold_more n digits in
    let no : leb (fold with_digit n digits) 2000000000 ≡ false = lt-leb (fold with_digit n digits) 2000000000 (omega arith) in
    rw (and_right (list_all is_digit digits) (leb (fold with_digit n digits) 2000000000) no) refl

-- one more digit goes on the number
pub digit_on : (n : ℕ) (digits : List ℕ) → 0 < length digits → is_digit (get_or digits 0 0) ≡ true → number_with (n * 10 + (get_or digits 0 0 - 48)) (drop 1 digits) ≡ number_with n digits
digit_on n [] some digit = absurd (omega (arith, some))
digit_on n (b ∷ digits) some digit = rw digit refl
