-- Distinct numbers up to a greatest one are no more than that one.
use Rattle.std.proofs.Common.{◌≡◌, ◌≢◌, ◌≤◌, Bool, true, false, eqb, List, [], ◌∷◌, ◌++◌, ℕ, zero, suc, length, refl, ap, ◌∙◌, inl, inr, arith, ◌||◌}
use Rattle.std.proofs.lemmas.Bool.{cases_Bool, eq-eqb, or_left, or_right}
use Rattle.odb_base.specs.Ids.{IsDistinct, holds}
use Rattle.odb_base.proofs.Splits.{Split, distinct_out, parts_of, split_at}
use Rattle.odb_base.proofs.Ids.{holds-append, member_differs}

-- what two parts hold, they hold with an identifier between them
holds_between : (front back : List ℕ) (id k : ℕ) → holds (front ++ back) k ≡ true → holds (front ++ id ∷ back) k ≡ true
holds_between [] back id k inside = or_right (eqb id k) (holds back k) inside
holds_between (x ∷ xs) back id k inside = elim (cases_Bool (eqb x k)) [
  | inl e ↦ or_left (eqb x k) (holds (xs ++ id ∷ back) k) e
  | inr e ↦ or_right (eqb x k) (holds (xs ++ id ∷ back) k) (holds_between xs back id k (rw e at inside))
]

length-between : (front back : List ℕ) (id : ℕ) → length (front ++ id ∷ back) ≡ suc (length (front ++ back))
length-between [] back id = refl
length-between (x ∷ xs) back id = ap suc (length-between xs back id)

-- the members are numbers from 1 to a greatest one
abbrev pub AreUpTo : ℕ → List ℕ → Type 0
AreUpTo most ids = (id : ℕ) → holds ids id ≡ true → (1 ≤ id) × (id ≤ most)

-- a list cut at the greatest number, without it
cut_at_most : (most : ℕ) (ids : List ℕ) → IsDistinct ids → AreUpTo (suc most) ids → (s : Split (suc most) ids) → AreUpTo most (s.front ++ s.back)
cut_at_most most ids distinct bounds s id inside =
    let parts = parts_of s.front (suc most ∷ s.back) (rw s.is at distinct) in
    let out : holds (s.front ++ s.back) (suc most) ≡ false = holds-append s.front s.back (suc most) ∙ or_false (holds s.front (suc most)) (holds s.back (suc most)) s.apart parts.back_distinct.0 in
    let h = bounds id (ap (λ l. holds l id) s.is ∙ holds_between s.front s.back (suc most) id inside) in
    let ne : id ≢ suc most = member_differs (s.front ++ s.back) id (suc most) inside out in
    (h.0, below most id h.1 ne)
  where
    or_false : (a b : Bool) → a ≡ false → b ≡ false → (a || b) ≡ false
    or_false a b p q = rw (p, q) refl

    below : (most id : ℕ) → id ≤ suc most → id ≢ suc most → id ≤ most
    below most id h ne = omega arith

-- distinct numbers up to a greatest one are no more than that one
pub length-distinct : (most : ℕ) (ids : List ℕ) → IsDistinct ids → AreUpTo most ids → length ids ≤ most
length-distinct zero [] distinct bounds = omega arith
length-distinct zero (x ∷ xs) distinct bounds =
    let h = bounds x (or_left (eqb x x) (holds xs x) (eq-eqb x x refl)) in
    absurd (omega (arith, h.0, h.1))
length-distinct (suc most) ids distinct bounds = elim (cases_Bool (holds ids (suc most))) [
  | inl inside ↦
      let s = split_at (suc most) ids inside in
      let shorter = length-distinct most (s.front ++ s.back) (distinct_out s.front s.back (suc most) (rw s.is at distinct)) (cut_at_most most ids distinct bounds s) in
      omega (arith, shorter, ap length s.is ∙ length-between s.front s.back (suc most))
  | inr outside ↦
      let h = length-distinct most ids distinct (λ id inside. (
        (bounds id inside).0,
        smaller most id ((bounds id inside).1) (member_differs ids id (suc most) inside outside),
      )) in
      omega (arith, h)
]
  where
    smaller : (most id : ℕ) → id ≤ suc most → id ≢ suc most → id ≤ most
    smaller most id h ne = omega arith
