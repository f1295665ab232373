-- One pass over a text gives what the parts around its point are.
use Rattle.std.proofs.Common.{◌≡◌, ℕ, suc, ◌+◌, ◌-◌, ◌*◌, ◌<◌, ◌≤◌, Bool, true, false, List, [], ◌∷◌, Option, Some, None, if◌then◌else◌, fold, length, drop, get_or, refl, sym, ap, ◌∙◌, inl, inr, arith, add-zero, zero-add, nat_le, slice_get, eqb, length-drop}
use Rattle.std.proofs.lemmas.Bool.{cases_Bool}
use Rattle.std.proofs.lemmas.Bool.Decides.{nat_tests}
use Rattle.std.specs.List.{list_all, position_or_len}
use Rattle.ld_words.specs.declared.short_decimal.ShortDecimal.{ShortDecimal}
use Rattle.odb_base.specs.Digits.{is_digit, with_digit}
use Rattle.ld_words.specs.Decimal.{digits_of, is_point, lacks_digits, places_of}
use Rattle.ld_words.specs.Scan.{decimal, decimal_in, scan}

-- digits behind the point
scan_behind : (number places : ℕ) (text : List ℕ) → scan true number places text
    ≡ (if list_all is_digit text then Some (decimal (fold with_digit number text) (places + length text)) else None)
scan_behind number places [] = rw add-zero refl
scan_behind number places (b ∷ text) = elim (cases_Bool (is_digit b)) [
  | inl e ↦
      let more : places + 1 + length text ≡ places + suc (length text) = omega arith in
      rw e (scan_behind (with_digit number b) (places + 1) text
      ∙ ap (λ (p : ℕ). if list_all is_digit text then Some (decimal (fold with_digit (with_digit number b) text) p) else None) more)
  | inr e ↦ rw e refl
]

-- a text that begins with a point, and one that doesn't
point_digits : (b : ℕ) (text : List ℕ) → is_point b ≡ true → digits_of (b ∷ text) ≡ text
point_digits b text e = rw e refl

point_places : (b : ℕ) (text : List ℕ) → is_point b ≡ true → places_of (b ∷ text) ≡ length text
point_places b text e = rw e refl

other_digits : (b : ℕ) (text : List ℕ) → is_point b ≡ false → digits_of (b ∷ text) ≡ b ∷ digits_of text
other_digits b text e =
    let k = position_or_len is_point text in
    let two : 1 + k + 1 ≡ suc (k + 1) = omega arith in
    let one : 1 + k ≡ suc k = omega arith in
    rw (e, two, one) refl

other_places : (b : ℕ) (text : List ℕ) → is_point b ≡ false → places_of (b ∷ text) ≡ places_of text
other_places b text e =
    let k = position_or_len is_point text in
    let two : 1 + k + 1 ≡ suc (k + 1) = omega arith in
    rw (e, two) refl

digit_no_point : (b : ℕ) → is_digit b ≡ true → is_point b ≡ false
digit_no_point b e = grind (arith, nat_tests)

point_no_digit : (b : ℕ) → is_point b ≡ true → is_digit b ≡ false
point_no_digit b e = grind (arith, nat_tests)

-- what digits around a point are
abbrev found_of : ℕ → List ℕ → ℕ → Option ShortDecimal
found_of number digits places = if list_all is_digit digits then Some (decimal (fold with_digit number digits) places) else None

-- what a whole text is, where it has a digit
abbrev found : ℕ → List ℕ → Option ShortDecimal
found number text = found_of number (digits_of text) (places_of text)

found_more : (number b : ℕ) (text : List ℕ) → is_point b ≡ false → found number (b ∷ text) ≡ found_of number (b ∷ digits_of text) (places_of text)
found_more number b text e =
    ap (λ (ds : List ℕ). found_of number ds (places_of (b ∷ text))) (other_digits b text e)
    ∙ ap (λ (p : ℕ). found_of number (b ∷ digits_of text) p) (other_places b text e)

found_digit : (number b : ℕ) (digits : List ℕ) (places : ℕ) → is_digit b ≡ true → found_of (with_digit number b) digits places ≡ found_of number (b ∷ digits) places
found_digit number b digits places d = rw d refl

found_other : (number b : ℕ) (digits : List ℕ) (places : ℕ) → is_digit b ≡ false → None ≡ found_of number (b ∷ digits) places
found_other number b digits places d = rw d refl

no_point : (number b : ℕ) (text : List ℕ) → is_point b ≡ false → (if is_point b then scan true number 0 text else None) ≡ None
no_point number b text e = rw e refl

scan_found : (number : ℕ) (text : List ℕ) → scan false number 0 text ≡ found number text
scan_found number [] = refl
scan_found number (b ∷ text) = elim (cases_Bool (is_point b)) [
  | inl e ↦
      let no = point_no_digit b e in
      rw (no, e) (scan_behind number 0 text ∙ ap (λ (p : ℕ). found_of number text p) (zero-add (length text)))
  | inr e ↦ elim (cases_Bool (is_digit b)) [
    | inl d ↦ rw d (scan_found (with_digit number b) text ∙ found_digit number b (digits_of text) (places_of text) d ∙ sym (found_more number b text e))
    | inr d ↦ rw d (no_point number b text e ∙ found_other number b (digits_of text) (places_of text) d ∙ sym (found_more number b text e))
  ]
]

-- a text of at most so many bytes has no more digits
few_digits : (text : List ℕ) → length (digits_of text) ≤ length text
few_digits [] = omega arith
few_digits (b ∷ text) = elim (cases_Bool (is_point b)) [
  | inl e ↦ rw (point_digits b text e) (omega arith)
  | inr e ↦ rw (other_digits b text e) (omega (arith, few_digits text))
]

-- and at most one byte that is no digit
many_digits : (text : List ℕ) → length text ≤ length (digits_of text) + 1
many_digits [] = omega arith
many_digits (b ∷ text) = elim (cases_Bool (is_point b)) [
  | inl e ↦ rw (point_digits b text e) (omega arith)
  | inr e ↦ rw (other_digits b text e) (omega (arith, many_digits text))
]

-- a short text with a digit is a decimal where one pass finds one
pub short_found : (text : List ℕ) → 1 ≤ length (digits_of text) → length text ≤ 13 → scan false 0 0 text ≡ decimal_in text
short_found text some short =
    let low : nat_le 1 (length (digits_of text)) ≡ true = grind (arith, nat_tests) in
    let high : nat_le (length (digits_of text)) 30 ≡ true = let few = few_digits text in grind (arith, nat_tests) in
    rw (low, high) (scan_found 0 text)

-- where a text lacks digits it is no decimal
pub lacking : (text : List ℕ) → lacks_digits (slice_get text 0) (length text) ≡ true → None ≡ decimal_in text
lacking [] lacks = refl
lacking (b ∷ []) lacks = let point : is_point b ≡ true = lacks in rw (point_digits b [] point) refl
lacking (b ∷ c ∷ text) lacks = let more : eqb (suc (suc (length text))) 1 ≡ false = grind (arith, nat_tests) in cc (rw more at lacks)

-- and else there is one
pub some_digit : (text : List ℕ) → lacks_digits (slice_get text 0) (length text) ≡ false → 1 ≤ length (digits_of text)
some_digit [] lacks = cc
some_digit (b ∷ []) lacks = let other : is_point b ≡ false = lacks in rw (other_digits b [] other) (omega arith)
some_digit (b ∷ c ∷ text) lacks = omega (arith, many_digits (b ∷ c ∷ text))

-- one more digit, before the point or behind it
pub scan_digit : (point : Bool) (number places one : ℕ) (bytes : List ℕ) → 0 < length bytes → is_digit (get_or bytes 0 0) ≡ true → one ≡ (if point then 1 else 0)
    → scan point (number * 10 + (get_or bytes 0 0 - 48)) (places + one) (drop 1 bytes) ≡ scan point number places bytes
scan_digit point number places one [] some digit is = absurd (omega (arith, some))
scan_digit true number places one (b ∷ bytes) some digit is = rw (digit, is) refl
scan_digit false number places one (b ∷ bytes) some digit is = rw (digit, is, add-zero) refl

-- it is one place more at most
pub one_place : (point : Bool) (places one : ℕ) (bytes : List ℕ) → 0 < length bytes → one ≤ 1 → places + length bytes ≤ 13 → places + one + length (drop 1 bytes) ≤ 13
one_place point places one bytes some le fits = omega (arith, length-drop 1 bytes)
