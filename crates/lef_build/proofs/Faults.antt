-- A walk over a list to its first fault.
use Rattle.std.proofs.Common.{◌≡◌, ◌<◌, ◌≤◌, ◌+◌, ◌∙◌, List, ℕ, Option, Some, None, add-one, length, get_or, drop, drop-cons, refl, sym, ap}
use Rattle.std.proofs.lemmas.List.{drop_all}
use Rattle.lef_build.specs.declared.fault.BuildFault.{BuildFault}
use Rattle.lef_build.specs.Causes.{first_fault}

module _ {A : Type 0} (fault_of : A → Option BuildFault) where
  -- a thing without a fault
  pub fault_past : (xs : List A) (i : ℕ) (x : A) → i < length xs → x ≡ get_or xs i x → fault_of x ≡ None → first_fault fault_of (drop (i + 1) xs) ≡ first_fault fault_of (drop i xs)
  fault_past xs i x within is none =
      let rest = drop-cons xs i x within in
      let here : fault_of (get_or xs i x) ≡ None = ap fault_of (sym is) ∙ none in
      rw (add-one, rest, here) refl

  -- a thing with a fault
  pub fault_at : (xs : List A) (i : ℕ) (x : A) (why : BuildFault) → i < length xs → x ≡ get_or xs i x → fault_of x ≡ Some why → first_fault fault_of (drop i xs) ≡ Some why
  fault_at xs i x why within is some =
      let rest = drop-cons xs i x within in
      let here : fault_of (get_or xs i x) ≡ Some why = ap fault_of (sym is) ∙ some in
      rw (rest, here) refl

  -- past the last thing
  pub fault_end : (xs : List A) (i : ℕ) → length xs ≤ i → first_fault fault_of (drop i xs) ≡ None
  fault_end xs i end = rw (drop_all i xs end) refl
