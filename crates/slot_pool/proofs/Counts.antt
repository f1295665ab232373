-- How often ids stand in a list, and which slots are empty.
use Rattle.std.proofs.Common.{◌≡◌, ℕ, ◌+◌, ◌-◌, ◌≤◌, ◌≢◌, true, false, cond, eqb, List, [], ◌∷◌, ◌++◌, length, get_or, take, Option, Some, None, is_some, is_none, count_by, refl, arith}
use Rattle.std.proofs.lemmas.List.Sums.{sum_by-cons}
use Rattle.std.proofs.lemmas.List.{get_or_past, length-take, get_or-take}
use Rattle.std.proofs.lemmas.Grind.{elements}
use Rattle.std.proofs.lemmas.Bool.Decides.{nat_tests}
use Rattle.slot_pool.specs.Table.{times, once_if, is_vacant, record_in, with_slot}

-- an id more in front
pub times-cons : (id x : ℕ) (ids : List ℕ) → times id (x ∷ ids) ≡ once_if (eqb x id) + times id ids
times-cons id x ids = sum_by-cons (λ other. cond (eqb other id) 1 0) x ids

-- an id that a list holds is in front or behind
pub times_cons_same : (id x : ℕ) (ids : List ℕ) → x ≡ id → times id (x ∷ ids) ≡ 1 + times id ids
times_cons_same id x ids same = let e = times-cons id x ids in grind (arith, nat_tests, e)

pub times_cons_other : (id x : ℕ) (ids : List ℕ) → x ≢ id → times id (x ∷ ids) ≡ times id ids
times_cons_other id x ids other = let e = times-cons id x ids in grind (arith, nat_tests, e)

module _ {A : Type 0} where
  -- each slot is empty or has a record
  pub empty_and_live : (slots : List (Option A)) → count_by is_none slots + count_by is_some slots ≡ length slots
  empty_and_live [] = refl
  empty_and_live (None ∷ slots) =
      let empty : count_by is_none (None ∷ slots) ≡ 1 + count_by is_none slots = sum_by-cons (λ slot. cond (is_none slot) 1 0) None slots in
      let live : count_by is_some (None ∷ slots) ≡ 0 + count_by is_some slots = sum_by-cons (λ slot. cond (is_some slot) 1 0) None slots in
      omega (arith, empty, live, empty_and_live slots)
  empty_and_live (Some x ∷ slots) =
      let empty : count_by is_none (Some x ∷ slots) ≡ 0 + count_by is_none slots = sum_by-cons (λ slot. cond (is_none slot) 1 0) (Some x) slots in
      let live : count_by is_some (Some x ∷ slots) ≡ 1 + count_by is_some slots = sum_by-cons (λ slot. cond (is_some slot) 1 0) (Some x) slots in
      omega (arith, empty, live, empty_and_live slots)

  -- a slot with a record is added
  pub is_vacant-push : (slots : List (Option A)) (x : A) (id : ℕ) → is_vacant (slots ++ Some x ∷ []) id ≡ is_vacant slots id
  is_vacant-push slots x id = grind (arith, nat_tests, elements)

  -- another slot has new content
  pub is_vacant-set_other : (slots : List (Option A)) (content : Option A) (changed id : ℕ) → 1 ≤ changed → id ≢ changed → is_vacant (with_slot changed content slots) id ≡ is_vacant slots id
  is_vacant-set_other slots content changed id some other = grind (arith, nat_tests, elements)

  -- a slot has a record
  pub is_vacant-set_some : (slots : List (Option A)) (x : A) (id : ℕ) → is_vacant (with_slot id (Some x) slots) id ≡ false
  is_vacant-set_some slots x id = grind (arith, nat_tests, elements)

  -- a slot is emptied
  pub is_vacant-set_none : (slots : List (Option A)) (changed id : ℕ) → changed ≡ id → 1 ≤ changed → changed ≤ length slots → is_vacant (with_slot changed None slots) id ≡ true
  is_vacant-set_none slots changed id same some within = grind (arith, nat_tests, elements)

  -- an id is vacant only within the slots, which have no record there
  pub vacant_within : (slots : List (Option A)) (id : ℕ) → is_vacant slots id ≡ true → (1 ≤ id) × (id ≤ length slots) × (get_or slots (id - 1) None ≡ None)
  vacant_within slots id h = grind (arith, nat_tests, h)

  -- an id with a record is within the slots, and not vacant
  pub live_within : (slots : List (Option A)) (id : ℕ) → is_some (record_in slots id) ≡ true → (1 ≤ id) × (id ≤ length slots) × (record_in slots id ≡ get_or slots (id - 1) None) × (is_vacant slots id ≡ false)
  live_within slots id h = grind (arith, nat_tests, get_or_past slots (id - 1) None, h)

  -- the last slot is dropped
  pub is_vacant-take : (slots : List (Option A)) (id : ℕ) → is_vacant (take (length slots - 1) slots) id ≡ true → is_vacant slots id ≡ true
  is_vacant-take slots id h =
      let within = length-take (length slots - 1) slots in
      let same = get_or-take (length slots - 1) slots (id - 1) None in
      grind (arith, nat_tests, within, same, h)

  -- a vacant slot's new content
  pub record_in-set : (slots : List (Option A)) (content : Option A) (id : ℕ) → is_vacant slots id ≡ true → record_in (with_slot id content slots) id ≡ content
  record_in-set slots content id vacant =
      let was = vacant_within slots id vacant in
      grind (arith, nat_tests, elements, was.0, was.1)
