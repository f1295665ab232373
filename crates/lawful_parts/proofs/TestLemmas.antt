-- Tests that are true exactly where something holds.
use Rattle.std.proofs.Common.{◌≡◌, ◌&&◌, ◌<◌, ◌≤◌, ◌↔◌, Bool, true, false, List, [], ◌∷◌, ℕ, zero, suc, ℤ, pos, negsuc, Option, Some, None, not, slice_get, nat_le, nat_lt, refl, sym, ap, ◌∙◌, arith}
use Rattle.std.specs.Prelude.{IsTrue, is_none, ◌≤ℤ◌}
use Rattle.std.specs.List.{list_all, list_any}
use Rattle.std.proofs.lemmas.Bool.{and_parts, false≢true, le-leb, leb-true, lt-ltb, ltb-true, or_left, or_right}
use Rattle.std.proofs.lemmas.Bool.Decides.{nat_tests}
use Rattle.std.proofs.lemmas.Int.{ints}
use Rattle.odb_base.specs.Geometry.{IsCoordinate, is_coordinate}
use Rattle.odb_base.specs.Name.{IsName, name_fault}
use Rattle.lawful_parts.specs.Lawful.{AreAll}
use Rattle.lawful_parts.specs.Tests.{int_le, is_name}

-- two tests, both true exactly where both facts hold
pub both : (a b : Bool) {P Q : Type 0} → (IsTrue a ↔ P) → (IsTrue b ↔ Q) → IsTrue (a && b) ↔ (P × Q)
both a b p q = (
  λ h. let parts = and_parts a b h in (p.0 parts.0, q.0 parts.1),
  λ h. let one = p.1 h.0 in let other = q.1 h.1 in rw (one, other) refl,
)

pub le_test : (a b : ℕ) → IsTrue (nat_le a b) ↔ (a ≤ b)
le_test a b = (λ h. leb-true a b h, λ h. le-leb a b h)

pub lt_test : (a b : ℕ) → IsTrue (nat_lt a b) ↔ (a < b)
lt_test a b = (λ h. ltb-true a b h, λ h. lt-ltb a b h)

pub none_test : {A : Type 0} → (o : Option A) → IsTrue (is_none o) ↔ (o ≡ None)
none_test None = (λ h. refl, λ h. refl)
none_test (Some x) = (λ h. absurd (false≢true h), λ h. cc)

pub name_test : (name : List ℕ) → IsTrue (is_name name) ↔ IsName name
name_test name = none_test (name_fault name)

pub int_le_test : (a b : ℤ) → IsTrue (int_le a b) ↔ (a ≤ℤ b)
int_le_test (pos a) (pos b) = (
  λ h. let low : a ≤ b = leb-true a b h in omega (arith, ints, low),
  λ h. let low : a ≤ b = omega (arith, ints, h) in le-leb a b low,
)
int_le_test (pos a) (negsuc b) = (λ h. absurd (false≢true h), λ h. absurd (omega (arith, ints, h)))
int_le_test (negsuc a) (pos b) = (λ h. omega (arith, ints), λ h. refl)
int_le_test (negsuc a) (negsuc b) = (
  λ h. let low : b ≤ a = leb-true b a h in omega (arith, ints, low),
  λ h. let low : b ≤ a = omega (arith, ints, h) in le-leb b a low,
)

module _ {A : Type 0} (test : A → Bool) where
  -- what each item passes, the one at a place passes
  passes : (xs : List A) (i : ℕ) (x : A) → list_all test xs ≡ true → slice_get xs i ≡ Some x → test x ≡ true
  passes [] zero x all at = cc
  passes [] (suc i) x all at = cc
  passes (y ∷ ys) zero x all at = let same : y ≡ x = cc in rw (← same) (and_parts (test y) (list_all test ys) all).0
  passes (y ∷ ys) (suc i) x all at = passes ys i x (and_parts (test y) (list_all test ys) all).1 at

  all_pass : (xs : List A) → ((i : ℕ) (x : A) → slice_get xs i ≡ Some x → test x ≡ true) → list_all test xs ≡ true
  all_pass [] h = refl
  all_pass (x ∷ xs) h = let here = h zero x refl in let rest = all_pass xs (λ i y at. h (suc i) y at) in rw (here, rest) refl

  -- what some item passes
  pub some_passes : (xs : List A) (i : ℕ) (x : A) → slice_get xs i ≡ Some x → test x ≡ true → list_any test xs ≡ true
  some_passes [] zero x at h = cc
  some_passes [] (suc i) x at h = cc
  some_passes (y ∷ ys) zero x at h = let same : y ≡ x = cc in or_left (test y) (list_any test ys) (ap test same ∙ h)
  some_passes (y ∷ ys) (suc i) x at h = or_right (test y) (list_any test ys) (some_passes ys i x at h)

  pub none_passes : (xs : List A) → ((i : ℕ) (x : A) → slice_get xs i ≡ Some x → test x ≡ false) → list_any test xs ≡ false
  none_passes [] h = refl
  none_passes (x ∷ xs) h = rw (h zero x refl) (none_passes xs (λ i y at. h (suc i) y at))

  -- a test of each item, true exactly where each is as it says
  pub all_test : {Is : A → Type 0} → ((x : A) → IsTrue (test x) ↔ Is x) → (xs : List A) → IsTrue (list_all test xs) ↔ AreAll Is xs
  all_test each xs = (
    λ h place x at. (each x).0 (passes xs place x h at),
    λ h. all_pass xs (λ place x at. (each x).1 (h place x at)),
  )

pub not_true : (b : Bool) → not b ≡ true → b ≡ false
not_true true h = absurd (false≢true h)
not_true false h = refl
