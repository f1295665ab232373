-- What a good table says of its free ids, and of the ids that takes will give.
use Rattle.std.proofs.Common.{◌≡◌, ℕ, zero, suc, ◌+◌, ◌-◌, ◌<◌, ◌≤◌, ◌⊎◌, true, List, [], ◌∷◌, length, get_or, Option, None, refl, arith, inl, inr}
use Rattle.std.proofs.lemmas.Bool.{cases_lt}
use Rattle.std.proofs.lemmas.Bool.Decides.{nat_tests}
use Rattle.std.proofs.lemmas.List.{get_or_past}
use Rattle.slot_pool.specs.Table.{Table, times, is_vacant, record_in, record_at, next_id, IsGood, FreeIdsAreVacant, NextIdsAreNew}
use Rattle.slot_pool.proofs.Counts.{times-cons, times_cons_same, vacant_within}

-- a list holds the id at each of its places
held_at : (ids : List ℕ) (k d : ℕ) → k < length ids → 1 ≤ times (get_or ids k d) ids
held_at [] k d within = absurd (omega arith)
held_at (x ∷ ids) zero d within = rw (times_cons_same x x ids refl) (omega arith)
held_at (x ∷ ids) (suc k) d within =
    let held = held_at ids k d (omega arith) in
    rw (times-cons (get_or ids k d) x ids) (omega (arith, held))

module _ {A : Type 0} where
  -- an id that a good table's free list holds is vacant
  vacant_if_held : (t : Table A) → IsGood t → (id : ℕ) → 1 ≤ times id t.free → is_vacant t.slots id ≡ true
  vacant_if_held t good id held = let once = good id in grind (arith, once, held)

  pub free_ids_are_vacant : (t : Table A) → IsGood t → FreeIdsAreVacant t
  free_ids_are_vacant t good = λ k d within. vacant_if_held t good (get_or t.free k d) (held_at t.free k d within)

  -- a vacant id has no record
  none_at_vacant : (slots : List (Option A)) (id : ℕ) → is_vacant slots id ≡ true → record_in slots id ≡ None
  none_at_vacant slots id vacant = let was = vacant_within slots id vacant in grind (arith, nat_tests, was)

  -- an id past the slots has no record
  none_past : (slots : List (Option A)) (id : ℕ) → length slots < id → record_in slots id ≡ None
  none_past slots id past = grind (arith, nat_tests, get_or_past slots (id - 1) None)

  next_is_new : (t : Table A) → IsGood t → (k : ℕ) → (k < length t.free) ⊎ (length t.free ≤ k) → record_at t (next_id t k) ≡ None
  next_is_new t good k (inl free) =
      none_at_vacant t.slots (next_id t k) (vacant_if_held t good (next_id t k) (held_at t.free k (length t.slots + (k + 1 - length t.free)) free))
  next_is_new t good k (inr grown) =
      rw (get_or_past t.free k (length t.slots + (k + 1 - length t.free)) grown)
      (none_past t.slots (length t.slots + (k + 1 - length t.free)) (omega arith))

  pub next_ids_are_new : (t : Table A) → IsGood t → NextIdsAreNew t
  next_ids_are_new t good = λ k. next_is_new t good k (cases_lt k (length t.free))

module _ {A : Type 0} where
  -- where the cap allows the take, its id is within the cap
  pub next_id_within : (t : Table A) (cap k : ℕ) → IsGood t → length t.slots ≤ cap → k < length t.free + (cap - length t.slots) → next_id t k ≤ cap
  next_id_within t cap k good capped allowed = elim (cases_lt k (length t.free)) [
    | inl free ↦
        let past = length t.slots + (k + 1 - length t.free) in
        let vacant = vacant_if_held t good (get_or t.free k past) (held_at t.free k past free) in
        let within = vacant_within t.slots (get_or t.free k past) vacant in
        omega (arith, within)
    | inr grown ↦ rw (get_or_past t.free k (length t.slots + (k + 1 - length t.free)) grown) (omega arith)
  ]
