-- What stands at a place of a list that grew at its end, or that was cut.
use Rattle.std.proofs.Common.{◌≡◌, ◌⊎◌, ◌<◌, suc, zero, ℕ, List, [], ◌∷◌, ◌++◌, Some, length, take, slice_get, refl, ap, inl, inr, arith}

module _ {A : Type 0} where
  -- a place in the list stays where more is put behind it
  pub slice_get-append : (xs ys : List A) (i : ℕ) (x : A) → slice_get xs i ≡ Some x → slice_get (xs ++ ys) i ≡ Some x
  slice_get-append [] ys i x h = cc
  slice_get-append (a ∷ xs) ys zero x h = h
  slice_get-append (a ∷ xs) ys (suc i) x h = slice_get-append xs ys i x h

  -- what is put last stands at the length
  pub slice_get-last : (xs : List A) (y : A) → slice_get (xs ++ y ∷ []) (length xs) ≡ Some y
  slice_get-last [] y = refl
  slice_get-last (a ∷ xs) y = slice_get-last xs y

  -- what stands in the longer list stood in the shorter, or is the last
  pub push_cases : (xs : List A) (y : A) (i : ℕ) (x : A) → slice_get (xs ++ y ∷ []) i ≡ Some x
      → (slice_get xs i ≡ Some x) ⊎ ((i ≡ length xs) × (x ≡ y))
  push_cases [] y zero x h = inr (refl, cc)
  push_cases [] y (suc i) x h = cc
  push_cases (a ∷ xs) y zero x h = inl h
  push_cases (a ∷ xs) y (suc i) x h = elim (push_cases xs y i x h) [
    | inl here ↦ inl here
    | inr last ↦ inr (ap suc last.0, last.1)
  ]

  -- what stands in the cut list stood there before
  pub slice_get-cut : (n : ℕ) (xs : List A) (i : ℕ) (x : A) → slice_get (take n xs) i ≡ Some x → slice_get xs i ≡ Some x
  slice_get-cut zero xs i x h = cc
  slice_get-cut (suc n) [] i x h = h
  slice_get-cut (suc n) (a ∷ xs) zero x h = h
  slice_get-cut (suc n) (a ∷ xs) (suc i) x h = slice_get-cut n xs i x h

  -- a place below the cut stays
  pub slice_get-below : (n : ℕ) (xs : List A) (i : ℕ) → i < n → slice_get (take n xs) i ≡ slice_get xs i
  slice_get-below zero xs i h = absurd (omega arith)
  slice_get-below (suc n) [] i h = refl
  slice_get-below (suc n) (a ∷ xs) zero h = refl
  slice_get-below (suc n) (a ∷ xs) (suc i) h = slice_get-below n xs i (omega arith)
