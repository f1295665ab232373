-- A search that walks over a list from its front.
use Rattle.std.proofs.Common.{◌≡◌, suc, ◌∷◌, ◌<◌, ◌+◌, Bool, true, false, List, ℕ, Some, length, get_or, drop, refl, add-one}
use Rattle.std.proofs.Math.Seq.{drop-cons}
use Rattle.std.specs.List.{find}

module _ {A : Type 0} where
  -- the item at the place passes the test
  pub found_here : (test : A → Bool) (xs : List A) (i : ℕ) (x : A) → i < length xs → x ≡ get_or xs i x → test x ≡ true → find test (drop i xs) ≡ Some x
  found_here test xs i x within is passes =
      let next : drop i xs ≡ get_or xs i x ∷ drop (suc i) xs = drop-cons xs i x within in
      rw (next, ← is, passes) refl

  -- the item at the place doesn't
  pub passed_over : (test : A → Bool) (xs : List A) (i : ℕ) (x : A) → i < length xs → x ≡ get_or xs i x → test x ≡ false → find test (drop (i + 1) xs) ≡ find test (drop i xs)
  passed_over test xs i x within is fails =
      let next : drop i xs ≡ get_or xs i x ∷ drop (suc i) xs = drop-cons xs i x within in
      rw (next, ← is, fails, add-one) refl
