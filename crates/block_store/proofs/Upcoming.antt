-- What stands among the identifiers that the next new objects get.
use Rattle.std.proofs.Common.{◌≡◌, ◌+◌, ◌-◌, ◌≤◌, ◌<◌, List, [], ◌∷◌, ℕ, zero, suc, Some, length, slice_get, slice_index_or, refl, ap, ◌∙◌, arith, inl, inr}
use Rattle.std.proofs.lemmas.Bool.{cases_lt}
use Rattle.std.proofs.lemmas.List.{get_or_past}
use Rattle.std.proofs.lemmas.List.FromFn.{length-range_with_len}
use Rattle.std.proofs.lemmas.Option.{slice_get_within}
use Rattle.std.specs.List.{range_with_len}
use Rattle.block_store.specs.Upcoming.{and_behind}

-- the first of those behind the last slot
pub first_behind : (slots : ℕ) → slots < 4294967295 → range_with_len (slots + 1) (4294967295 - slots) ≡ (slots + 1) ∷ range_with_len (slots + 1 + 1) (4294967295 - (slots + 1))
first_behind slots more =
    let e : 4294967295 - slots ≡ suc (4294967295 - (slots + 1)) = omega arith in ap (range_with_len (slots + 1)) e

-- behind the greatest identifier there is none
pub none_behind : (slots : ℕ) → 4294967295 ≤ slots → range_with_len (slots + 1) (4294967295 - slots) ≡ []
none_behind slots past =
    let e : 4294967295 - slots ≡ 0 = omega arith in ap (range_with_len (slots + 1)) e

-- the number at a place of a range
in_range : (from n k : ℕ) → k < n → slice_get (range_with_len from n) k ≡ Some (from + k)
in_range from zero k within = absurd (omega (arith, within))
in_range from (suc n) zero within = let e : from ≡ from + 0 = omega arith in ap Some e
in_range from (suc n) (suc k) within =
    let e : from + 1 + k ≡ from + suc k = omega arith in in_range (from + 1) n k (omega (arith, within)) ∙ ap Some e

-- how many there are
pub count_upcoming : (free : List ℕ) (slots : ℕ) → length (and_behind free slots) ≡ length free + (4294967295 - slots)
count_upcoming [] slots = let e = length-range_with_len (slots + 1) (4294967295 - slots) in omega (arith, e)
count_upcoming (x ∷ free) slots = let e = count_upcoming free slots in omega (arith, e)

-- at a place stands what the take after so many gives
pub at_upcoming : (free : List ℕ) (slots k : ℕ) → k < length (and_behind free slots) → slice_get (and_behind free slots) k ≡ Some (slice_index_or free k (slots + (k + 1 - length free)))
at_upcoming [] slots k within =
    let few : k < 4294967295 - slots = omega (arith, within, count_upcoming [] slots) in
    let e : slots + 1 + k ≡ slots + (k + 1 - 0) = omega arith in
    in_range (slots + 1) (4294967295 - slots) k few ∙ ap Some e
at_upcoming (x ∷ free) slots zero within = refl
at_upcoming (x ∷ free) slots (suc k) within =
    let e : k + 1 - length free ≡ suc k + 1 - suc (length free) = omega arith in
    at_upcoming free slots k (omega (arith, within)) ∙ ap (λ n. Some (slice_index_or free k (slots + n))) e

pub is_later : (free : List ℕ) (slots k id : ℕ) → slice_get (and_behind free slots) k ≡ Some id → id ≡ slice_index_or free k (slots + (k + 1 - length free))
is_later free slots k id at = let there = at_upcoming free slots k (slice_get_within (and_behind free slots) k id at) in cc

-- what the take after so many gives stands at that place, up to the greatest identifier
pub later_is : (free : List ℕ) (slots k : ℕ) → slice_index_or free k (slots + (k + 1 - length free)) ≤ 4294967295 → slice_get (and_behind free slots) k ≡ Some (slice_index_or free k (slots + (k + 1 - length free)))
later_is free slots k few = elim (cases_lt k (length (and_behind free slots))) [
  | inl within ↦ at_upcoming free slots k within
  | inr past ↦
      let behind = get_or_past free k (slots + (k + 1 - length free)) (omega (arith, past, count_upcoming free slots)) in
      absurd (omega (arith, past, few, behind, count_upcoming free slots))
]
