-- The identifiers that a table gives next.
use Rattle.std.proofs.Common.{◌≡◌, ◌+◌, ◌<◌, List, [], ◌∷◌, ℕ, zero, suc, Some, length, take, refl, ap, sym, ◌∙◌, arith}
use Rattle.std.specs.List.{slice_get}
use Rattle.slot_pool.specs.Table.{Table, next_id}
use Rattle.steps_net.specs.Can.{AreNext}
use Rattle.edits.specs.Plan.{next_ids}

module _ {A : Type 0} (t : Table A) where
  -- there are so many
  pub count_next_ids : (from n : ℕ) → length (next_ids from n t) ≡ n
  count_next_ids from zero = refl
  count_next_ids from (suc n) = ap suc (count_next_ids (from + 1) n)

  next_from : (from n k id : ℕ) → slice_get (next_ids from n t) k ≡ Some id → id ≡ next_id t (from + k)
  next_from from zero k id h = cc
  next_from from (suc n) zero id h =
      let same : next_id t from ≡ id = cc in
      let place : from + zero ≡ from = omega arith in
      sym same ∙ ap (next_id t) (sym place)
  next_from from (suc n) (suc k) id h =
      let place : from + 1 + k ≡ from + suc k = omega arith in
      next_from (from + 1) n k id h ∙ ap (next_id t) place

  -- and they are the next ones
  pub next_ids_are_next : (n : ℕ) → AreNext (next_ids 0 n t) t
  next_ids_are_next n k id h =
      let place : 0 + k ≡ k = omega arith in
      next_from 0 n k id h ∙ ap (next_id t) place

  -- the first so many of a list in which each stands at its place
  pub first_next_ids : (ids : List ℕ) (from n : ℕ) → ((k : ℕ) → k < n → slice_get ids k ≡ Some (next_id t (from + k))) → take n ids ≡ next_ids from n t
  first_next_ids ids from zero at = refl
  first_next_ids [] from (suc n) at = let none = at 0 (omega arith) in cc
  first_next_ids (x ∷ ids) from (suc n) at =
      let first : x ≡ next_id t from = let stands = at 0 (omega arith) in let place : from + 0 ≡ from = omega arith in cc in
      let place : (k : ℕ) → from + suc k ≡ from + 1 + k = λ k. omega arith in
      let rest = first_next_ids ids (from + 1) n (λ k below. at (suc k) (omega (arith, below)) ∙ ap (λ i. Some (next_id t i)) (place k)) in
      cc
