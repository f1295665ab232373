-- When a table is good, by counts of its free identifiers.
use Rattle.std.proofs.Common.{◌≡◌, ◌+◌, ◌<◌, ◌≤◌, suc, eqb, Bool, true, false, List, [], ◌∷◌, ℕ, Option, Some, None, is_none, is_some, nat_le, not, All, length, get_or, min, refl, sym, ap, ◌∙◌, inl, inr, arith}
use Rattle.std.proofs.lemmas.Bool.{cases_Bool, cases_lt, eqb-true, eqb-false}
use Rattle.std.proofs.lemmas.Bool.Decides.{nat_tests}
use Rattle.std.proofs.lemmas.List.{get_or_default}
use Rattle.slot_pool.specs.Table.{IsGood, is_vacant, once_if, times}
use Rattle.slot_pool.proofs.Counts.{times_cons_other, vacant_within}
use Rattle.slot_pool.proofs.GoodTables.{free_ids_are_vacant}
use Rattle.named_pool.proofs.Finding.{record_at_place}
use Rattle.block_tables.specs.Counting.{often}

-- what a list holds stands at some place
pub held_place : (ids : List ℕ) (id : ℕ) → 1 ≤ times id ids → (k : ℕ) × (k < length ids) × (get_or ids k 0 ≡ id)
held_place [] id h = absurd (omega arith)
held_place (x ∷ xs) id h = elim (cases_Bool (eqb x id)) [
  | inl e ↦ (0, omega arith, eqb-true x id e)
  | inr e ↦
      let rest = held_place xs id (omega (arith, times_cons_other id x xs (eqb-false x id e))) in
      (suc rest.0, (let within = rest.1 in omega (arith, within)), rest.2)
]

module _ {A : Type 0} (slots : List (Option A)) (free counts : List ℕ) where
  -- as the counts say of the slots
  pub record AreCounted : Type 0 where
    pub within : All (λ id. id ≤ length slots) free
    pub once : (id : ℕ) → id ≤ length slots → get_or counts id 0 ≡ once_if (is_vacant slots id)

  once_of : (n : ℕ) (b : Bool) → min 2 n ≡ once_if b → n ≡ once_if b
  once_of n true h = omega (arith, h)
  once_of n false h = omega (arith, h)

  two_of : (n : ℕ) (b : Bool) → n ≡ once_if b → min 2 n ≡ once_if b
  two_of n true h = omega (arith, h)
  two_of n false h = omega (arith, h)

  past : (id : ℕ) → length slots < id → is_vacant slots id ≡ false
  past id h = grind (arith, nat_tests, h)

  pub good_if_counted : ((n : ℕ) → n < length slots + 1 → get_or counts n 0 ≡ often n free) → AreCounted → IsGood (record { slots = slots; free = free })
  good_if_counted tallied counted id = elim (cases_lt (length slots) id) [
    | inl far ↦ rw (past id far) (elim (cases_lt 0 (times id free)) [
      | inl some ↦
          let held = held_place free id (omega arith) in
          let near = counted.within held.0 0 held.1 in
          let same = held.2 in
          absurd (omega (arith, near, same, far))
      | inr none ↦ omega arith
    ])
    | inr near ↦ once_of (times id free) (is_vacant slots id) (sym (tallied id (omega arith)) ∙ counted.once id near)
  ]

  pub counted_if_good : ((n : ℕ) → n < length slots + 1 → get_or counts n 0 ≡ often n free) → IsGood (record { slots = slots; free = free }) → AreCounted
  counted_if_good tallied good = record {
    within = λ k d within. (vacant_within slots (get_or free k d) (free_ids_are_vacant (record { slots = slots; free = free }) good k d within)).1;
    once = λ id near. tallied id (omega arith) ∙ two_of (times id free) (is_vacant slots id) (good id);
  }

module _ {A : Type 0} (slots : List (Option A)) (counts : List ℕ) where
  -- 0 names no slot
  pub none_counted : get_or counts 0 0 ≡ 0 → (id : ℕ) → id ≤ 0 → get_or counts id 0 ≡ once_if (is_vacant slots id)
  none_counted first id low =
      let zero : id ≡ 0 = omega (arith, low) in
      ap (λ n. get_or counts n 0) zero ∙ first ∙ sym (ap (λ n. once_if (is_vacant slots n)) zero)

  -- the slot at a place, which is empty or not
  vacant_at : (place : ℕ) (slot : Option A) → place < length slots → slot ≡ get_or slots place slot → is_vacant slots (place + 1) ≡ is_none slot
  vacant_at place slot within is =
      let low : nat_le 1 (place + 1) ≡ true = grind (arith, nat_tests) in
      let near : nat_le (place + 1) (length slots) ≡ true = grind (arith, nat_tests, within) in
      rw (low, near) (ap is_none (record_at_place (record { slots = slots; free = [] }) place ∙ get_or_default slots place None slot within ∙ sym is))

  empty_is : (slot : Option A) (empty : Bool) → is_some slot ≡ not empty → is_none slot ≡ empty
  empty_is None true e = refl
  empty_is None false e = cc
  empty_is (Some x) true e = cc
  empty_is (Some x) false e = refl

  -- one slot more
  pub next_counted : (place : ℕ) (slot : Option A) → place < length slots → slot ≡ get_or slots place slot → (empty : Bool) → is_some slot ≡ not empty → get_or counts (place + 1) 0 ≡ once_if empty → ((id : ℕ) → id ≤ place → get_or counts id 0 ≡ once_if (is_vacant slots id)) → (id : ℕ) → id ≤ place + 1 → get_or counts id 0 ≡ once_if (is_vacant slots id)
  next_counted place slot within is empty so here known id low = elim (cases_lt place id) [
    | inl last ↦
        let same : id ≡ place + 1 = omega (arith, last, low) in
        ap (λ n. get_or counts n 0) same ∙ here ∙ ap once_if (sym (vacant_at place slot within is ∙ empty_is slot empty so)) ∙ sym (ap (λ n. once_if (is_vacant slots n)) same)
    | inr before ↦ known id before
  ]
