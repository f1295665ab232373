-- Digits only make a number greater.
use Rattle.std.proofs.Common.{◌≡◌, ◌≤◌, ◌<◌, ◌^◌, ◌-◌, ℕ, true, false, List, [], ◌∷◌, Option, None, if◌then◌else◌, fold, refl, arith}
use Rattle.std.proofs.lemmas.Bool.Decides.{nat_tests}
use Rattle.std.specs.List.{list_all}
use Rattle.odb_base.specs.Digits.{is_digit, with_digit}
use Rattle.ld_forms.specs.Names.{below_word, per_micron, per_micron_with, whole_number_with}

with-more : (digits : List ℕ) (n : ℕ) → n ≤ fold with_digit n digits
with-more [] n = omega arith
with-more (d ∷ digits) n = let more = with-more digits (with_digit n d) in let here : n ≤ with_digit n d = omega arith in omega (arith, more, here)

-- a number that is too great for a limit stays so
stays-beyond : (limit : ℕ) (lawful : ℕ → Option ℕ) → ((n : ℕ) → limit < n → lawful n ≡ None) → (n : ℕ) (digits : List ℕ) → limit < n
    → (if list_all is_digit digits then lawful (fold with_digit n digits) else None) ≡ None
stays-beyond limit lawful beyond n digits h =
    let more = with-more digits n in
    elim (list_all is_digit digits) as (λ b. (if b then lawful (fold with_digit n digits) else None) ≡ None) [
      | true ↦ beyond (fold with_digit n digits) (omega (arith, more))
      | false ↦ refl
    ]

pub stays_too_great : (n : ℕ) (digits : List ℕ) → 100000 < n → per_micron_with n digits ≡ None
stays_too_great n digits h = stays-beyond 100000 per_micron (λ n h. grind (arith, nat_tests)) n digits h

pub stays_too_wide : (n : ℕ) (digits : List ℕ) → 2 ^ 64 - 1 < n → whole_number_with n digits ≡ None
stays_too_wide n digits h = stays-beyond (2 ^ 64 - 1) below_word (λ n h. grind (arith, nat_tests)) n digits h
