-- Where the first byte stands that passes a test, and what stands before it.
use Rattle.std.proofs.Common.{◌≡◌, ℕ, suc, ◌+◌, ◌≤◌, ◌<◌, Bool, true, false, not, cond, ◌&&◌, List, [], ◌∷◌, Option, Some, None, length, take, drop, get_or, position, slice_get, IfSome, refl, sym, ap, arith, take-add, zero}
use Rattle.std.proofs.lemmas.Bool.Decides.{nat_tests}
use Rattle.std.proofs.lemmas.List.{get_or-drop, take_all, take-append-drop, length-drop}
use Rattle.std.proofs.lemmas.List.Folds.{list_all-append}
use Rattle.std.proofs.lemmas.List.Sums.{prefix_len-le-length, passes_at_first}
use Rattle.std.specs.List.{list_all, position_or_len, prefix_len}
use Rattle.std.proofs.Math.Numerals.{one-add}

-- both tests hold
pub both : (a b : Bool) → (a && b) ≡ true → (a ≡ true) × (b ≡ true)
both true b h = (refl, h)
both false b h = cc

-- no byte passes, and the place would be behind the last
pub position_none : (p : ℕ → Bool) (xs : List ℕ) → position p xs ≡ None → position_or_len p xs ≡ length xs
position_none p xs h = grind (arith, nat_tests, prefix_len-le-length (λ x. not (p x)) xs)

-- the place of the first byte that passes
pub position_some : (p : ℕ → Bool) (xs : List ℕ) (n : ℕ) → position p xs ≡ Some n → (position_or_len p xs ≡ n) × (n < length xs)
position_some p xs n h = grind (arith, nat_tests)

-- each byte of the front that passes does
pub front-passes : (p : ℕ → Bool) (xs : List ℕ) → list_all p (take (prefix_len p xs) xs) ≡ true
front-passes p [] = refl
front-passes p (x ∷ xs) =
    elim (p x) as (λ b. p x ≡ b → list_all p (take (cond b (1 + prefix_len p xs) 0) (x ∷ xs)) ≡ true) [
      | true ↦ λ e. rw (one-add (prefix_len p xs), e) (front-passes p xs)
      | false ↦ λ e. refl
    ] refl

-- a test denied twice
pub twice_denied : (p : ℕ → Bool) (xs : List ℕ) → list_all (λ x. not (not (p x))) xs ≡ list_all p xs
twice_denied p [] = refl
twice_denied p (x ∷ xs) = elim (p x) as (λ b. (not (not b) && list_all (λ x. not (not (p x))) xs) ≡ (b && list_all p xs)) [ true ↦ twice_denied p xs | false ↦ refl ]

-- a front of a front that passes
pub front-shorter : (p : ℕ → Bool) (m n : ℕ) (xs : List ℕ) → m ≤ n → list_all p (take n xs) ≡ true → list_all p (take m xs) ≡ true
front-shorter p zero n xs le h = refl
front-shorter p (suc m) zero xs le h = absurd (omega (arith, le))
front-shorter p (suc m) (suc n) [] le h = refl
front-shorter p (suc m) (suc n) (x ∷ xs) le h =
    let parts = both (p x) (list_all p (take n xs)) h in
    rw parts.0 (front-shorter p m n xs (omega (arith, le)) parts.1)

-- the front that passed, and then as many more as pass
pub front_longer : (p : ℕ → Bool) (n m : ℕ) (xs : List ℕ) → list_all p (take n xs) ≡ true → list_all p (take m (drop n xs)) ≡ true → list_all p (take (n + m) xs) ≡ true
front_longer p n m xs h k = rw (take-add, list_all-append, h, k) refl

-- the byte behind those before it passes
pub first_passes : (p : ℕ → Bool) (xs : List ℕ) → IfSome (slice_get (drop (position_or_len p xs) xs) 0) (λ x. p x ≡ true)
first_passes p [] = tt
first_passes p (x ∷ xs) =
    elim (p x) as (λ b. p x ≡ b → IfSome (slice_get (drop (cond (not b) (1 + position_or_len p xs) 0) (x ∷ xs)) 0) (λ y. p y ≡ true)) [
      | true ↦ λ e. e
      | false ↦ λ e. rw (one-add (position_or_len p xs)) (first_passes p xs)
    ] refl

-- a negated test
pub denied : (a : Bool) → not a ≡ true → a ≡ false
denied true h = cc
denied false h = refl

-- a negated test of what there is
pub denied_if : (p : ℕ → Bool) (o : Option ℕ) → IfSome o (λ x. not (p x) ≡ true) → IfSome o (λ x. p x ≡ false)
denied_if p None h = tt
denied_if p (Some x) h = denied (p x) h

-- no byte behind those that were seen passes, so none does
pub none_passes : (q : ℕ → Bool) (seen : ℕ) (xs rest : List ℕ) → rest ≡ drop seen xs → position q rest ≡ None
    → list_all (λ x. not (q x)) (take seen xs) ≡ true → list_all (λ x. not (q x)) xs ≡ true
none_passes q seen xs rest is none front =
    let p : ℕ → Bool = λ x. not (q x) in
    let all : prefix_len p rest ≡ length rest = position_none q rest none in
    let back : list_all p rest ≡ true = rw (← take_all (length rest) rest (omega arith), ← all) (front-passes p rest) in
    rw (← take-append-drop seen xs, list_all-append, front, ← is, back) refl

-- the first byte that passes behind those that were seen
pub record IsFound (q : ℕ → Bool) (xs : List ℕ) (place : ℕ) : Type 0 where
  pub within : place < length xs
  pub front : list_all (λ x. not (q x)) (take place xs) ≡ true
  pub passes : q (get_or xs place 0) ≡ true

pub first_found : (q : ℕ → Bool) (seen more : ℕ) (xs rest : List ℕ) → rest ≡ drop seen xs → position q rest ≡ Some more
    → list_all (λ x. not (q x)) (take seen xs) ≡ true → IsFound q xs (seen + more)
first_found q seen more xs rest is some front =
    let p : ℕ → Bool = λ x. not (q x) in
    let place = position_some q rest more some in
    let back : list_all p (take more (drop seen xs)) ≡ true = rw (← is, ← place.0) (front-passes p rest) in
    let at : q (get_or rest more 0) ≡ true = rw (sym place.0) (passes_at_first q rest 0 (rw place.0 place.1)) in
    record {
      within = omega (arith, place.1, ap length is, length-drop seen xs);
      front = front_longer p seen more xs front back;
      passes = rw (← get_or-drop seen xs more 0, ← is) at;
    }
