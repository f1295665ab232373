-- What the rule on a value says of its range.
use Rattle.std.proofs.Common.{◌≡◌, ◌≤◌, ◌<◌, ◌^◌, true, ℕ, ℤ, pos, negsuc, neg_ℤ, List, length, eqb, leb, arith, inl, inr, refl, Option, Some, None}
use Rattle.std.specs.Prelude.{FitsSigned, is_none}
use Rattle.std.specs.Int.{w32}
use Rattle.std.specs.Int.Signed.{le_z}
use Rattle.std.proofs.lemmas.Bool.{and_parts, leb-true, eqb-true, or_cases}
use Rattle.std.proofs.lemmas.Int.{fits_signed_from_abs, ints}
use Rattle.std.proofs.lemmas.Bool.Decides.{nat_tests}
use Rattle.odb_base.specs.declared.name.NameFault.{NameFault}
use Rattle.odb_base.specs.Name.{name_fault}
use Rattle.odb_base.proofs.Names.{name_is_short}
use Rattle.wires.specs.declared.fields.TextSort.{TextSort}
use Rattle.wires.specs.declared.fields.TextSort.TheVariants as sort
use Rattle.wires.specs.Fields.{is_between, is_from_to, is_name, text_fits}

-- a number is at most the greatest of its range
pub between_below : (least most n : ℕ) → is_between least most n ≡ true → (least ≤ n) × (n ≤ most)
between_below least most n h = let p = and_parts (leb least n) (leb n most) h in (leb-true least n p.0, leb-true n most p.1)

-- a number within a range is at least the one end and at most the other
from_to_parts : (least z : ℤ) → is_from_to least z ≡ true → (le_z least z ≡ true) × (le_z z (pos 2000000000) ≡ true)
from_to_parts least z h = and_parts (le_z least z) (le_z z (pos 2000000000)) h

-- a size within the limit has 32 bits
pub size_fits : (z : ℤ) → is_from_to (pos 0) z ≡ true → FitsSigned w32 z
size_fits (pos n) h = let p = from_to_parts (pos 0) (pos n) h in fits_signed_from_abs w32 (pos n) (grind (arith, ints, nat_tests))
size_fits (negsuc n) h = let p = from_to_parts (pos 0) (negsuc n) h in absurd (grind (arith, ints, nat_tests))

-- a coordinate has 32 bits
pub coordinate_fits : (z : ℤ) → is_from_to (neg_ℤ (pos 2000000000)) z ≡ true → FitsSigned w32 z
coordinate_fits (pos n) h = let p = from_to_parts (neg_ℤ (pos 2000000000)) (pos n) h in fits_signed_from_abs w32 (pos n) (grind (arith, ints, nat_tests))
coordinate_fits (negsuc n) h = let p = from_to_parts (neg_ℤ (pos 2000000000)) (negsuc n) h in fits_signed_from_abs w32 (negsuc n) (grind (arith, ints, nat_tests))

-- bytes without a fault are a name
no_fault : (o : Option NameFault) → is_none o ≡ true → o ≡ None
no_fault None h = refl
no_fault (Some f) h = absurd cc

-- a name is short
pub name_short : (bytes : List ℕ) → is_name bytes ≡ true → length bytes < 2 ^ 32
name_short bytes h = let short = name_is_short bytes (no_fault (name_fault bytes) h) in omega arith

empty_short : (bytes : List ℕ) → eqb (length bytes) 0 ≡ true → length bytes < 2 ^ 32
empty_short bytes h = let e : length bytes ≡ 0 = eqb-true (length bytes) 0 h in omega arith

-- a text that may stand in a field is short
pub text_short : (s : TextSort) (bytes : List ℕ) → text_fits s bytes ≡ true → length bytes < 2 ^ 32
text_short sort.Empty bytes h = empty_short bytes h
text_short sort.Name bytes h = name_short bytes h
text_short sort.NameOrEmpty bytes h = elim (or_cases (eqb (length bytes) 0) (is_name bytes) h) [ inl empty ↦ empty_short bytes empty | inr name ↦ name_short bytes name ]
