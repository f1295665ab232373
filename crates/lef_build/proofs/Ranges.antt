-- Numbers of units fit 32 bits.
use mir.Syntax.{w32, w64}
use mir.Val.{SFits, of_z, to_z}
use Rattle.std.proofs.Common.{◌≡◌, ◌≤◌, ◌∙◌, Bool, true, false, List, ℕ, zero, suc, Option, Some, Result, Ok, Err, if◌then◌else◌, refl, sym, subst, ap, inl, inr, arith}
use Rattle.std.specs.Prelude.{ℤ, nat_le}
use Rattle.std.specs.Result.{OkIff, result_ok}
use Rattle.std.proofs.lemmas.Bool.{cases_Bool, leb-true}
use Rattle.std.proofs.lemmas.Int.{to_z-of_z}
use Rattle.ld_words.specs.declared.decimal.NumberFault.{NumberFault}
use Rattle.ld_words.specs.declared.decimal.NumberFault.TheVariants as fault
use Rattle.odb_base.specs.Digits.{is_negative}
use Rattle.ld_words.specs.Decimal.{coordinate, is_decimal, magnitude_of, signed, units_of, unsigned}

-- a number with its sign
signed_fits : (negative : Bool) (n : ℕ) → n ≤ 2000000000 → SFits w32 (signed negative n)
signed_fits false n le = record { sfits = omega (arith, le) }
signed_fits true zero le = record { sfits = omega arith }
signed_fits true (suc n) le = record { sfits = omega (arith, le) }

if_ok : (test : Bool) (x z : ℤ) (why : NumberFault) → (if test then Ok x else Err why) ≡ Ok z → (test ≡ true) × (x ≡ z)
if_ok true x z why h = (refl, cc)
if_ok false x z why h = cc

coordinate_fits : (negative : Bool) (n : ℕ) (z : ℤ) → coordinate negative n ≡ Ok z → SFits w32 z
coordinate_fits negative n z h =
    let is = if_ok (nat_le n 2000000000) (signed negative n) z fault.OutOfRange h in
    subst (λ (y : ℤ). SFits w32 y) is.1 (signed_fits negative n (leb-true _ _ is.0))

units_fit : (units : ℕ) (word : List ℕ) (z : ℤ) → units_of units word ≡ Ok z → SFits w32 z
unfolding units_of
units_fit units word z h = elim (cases_Bool (is_decimal (unsigned word))) [
  | inl e ↦ coordinate_fits (is_negative word) (magnitude_of units (unsigned word)) z (rw e at h)
  | inr e ↦ let none = rw e at h in cc
]

-- a number that fits 32 bits is converted to itself
converted : {E : Type 0} (z : ℤ) (r : Result ℤ E) → SFits w32 z
    → OkIff r (SFits w32 (to_z w64 (of_z w64 z))) (to_z w64 (of_z w64 z)) → result_ok r ≡ Some z
converted z (Ok x) fits h =
    let wide : SFits w64 z = record { sfits = omega (arith, fits.sfits) } in
    ap Some (h.1 ∙ to_z-of_z w64 z wide)
converted z (Err e) fits h =
    let wide : SFits w64 z = record { sfits = omega (arith, fits.sfits) } in
    absurd (h (rw (to_z-of_z w64 z wide) fits))

ok_of : (parsed : Result ℤ NumberFault) (z : ℤ) → Some z ≡ result_ok parsed → parsed ≡ Ok z
ok_of (Ok x) z h = cc
ok_of (Err why) z h = cc

-- the number of a word that is converted
pub number_is : {E : Type 0} (units : ℕ) (word : List ℕ) (z : ℤ) (parsed : Result ℤ NumberFault) (r : Result ℤ E) (number : Option ℤ)
    → parsed ≡ units_of units word → Some z ≡ result_ok parsed → OkIff r (SFits w32 (to_z w64 (of_z w64 z))) (to_z w64 (of_z w64 z)) → number ≡ result_ok r
    → number ≡ result_ok (units_of units word)
number_is units word z parsed r number is some made given =
    let value : units_of units word ≡ Ok z = sym is ∙ ok_of parsed z some in
    given ∙ converted z r (units_fit units word z value) made ∙ sym (ap result_ok value)
