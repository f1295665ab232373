-- A good table has as many free ids as empty slots.
use Rattle.std.proofs.Common.{◌≡◌, ℕ, suc, ◌+◌, ◌-◌, ◌<◌, ◌≤◌, true, false, cond, List, [], ◌∷◌, length, get_or, Option, Some, None, is_none, count_by, refl, sym, ap, ◌∙◌, arith}
use Rattle.std.specs.Prelude.{map}
use Rattle.std.proofs.Math.ListN.{get_or-map}
use Rattle.std.proofs.lemmas.Bool.Decides.{nat_tests}
use Rattle.std.proofs.lemmas.List.{length-map}
use Rattle.std.proofs.lemmas.List.Sums.{sum_by-cons, sum_by-set, count_by-le-length}
use Rattle.slot_pool.specs.Table.{Table, once_if, is_vacant, with_slot, IsGood}
use Rattle.slot_pool.proofs.Counts.{vacant_within}
use Rattle.slot_pool.proofs.Tables.{top_is, IsGood-taken}

module _ {A : Type 0} where
  -- the slots all have records
  all_live : (slots : List (Option A)) → ((k : ℕ) → k < length slots → is_none (get_or slots k None) ≡ false) → count_by is_none slots ≡ 0
  all_live [] live = refl
  all_live (slot ∷ slots) live =
      let count : count_by is_none (slot ∷ slots) ≡ cond (is_none slot) 1 0 + count_by is_none slots = sum_by-cons (λ s. cond (is_none s) 1 0) slot slots in
      let here : is_none slot ≡ false = live 0 (omega arith) in
      let rest : count_by is_none slots ≡ 0 = all_live slots (λ k within. live (suc k) (omega arith)) in
      count ∙ (rw (here, rest) refl)

  -- no id is free
  none_empty : (slots : List (Option A)) → IsGood (record { slots = slots; free = [] }) → count_by is_none slots ≡ 0
  none_empty slots good = all_live slots (λ k within.
      let once : 0 ≡ once_if (is_vacant slots (k + 1)) = good (k + 1) in
      grind (arith, nat_tests, once))

-- the slots of a table whose records say nothing
counted_bare : (slots : List (Option (Unit {0}))) (free : List ℕ) → IsGood (record { slots = slots; free = free }) → count_by is_none slots ≡ length free
counted_bare slots [] good = none_empty slots good
counted_bare slots (top ∷ below) good =
    let was = top_is slots top below good in
    let vacant = vacant_within slots top was.0 in
    let used : IsGood (record { slots = with_slot top (Some tt) slots; free = below }) = IsGood-taken tt slots (top ∷ below) good in
    let count : count_by is_none (with_slot top (Some tt) slots) + once_if (is_none (get_or slots (top - 1) None)) ≡ count_by is_none slots + 0 = sum_by-set (λ slot. cond (is_none slot) 1 0) slots (top - 1) (Some tt) None (omega arith) in
    let empty : is_none (get_or slots (top - 1) None) ≡ true = ap is_none vacant.2 in
    let fewer : count_by is_none (with_slot top (Some tt) slots) + 1 ≡ count_by is_none slots + 0 = rw empty at count in
    let rest = counted_bare (with_slot top (Some tt) slots) below used in
    omega (arith, fewer, rest)

module _ {A : Type 0} where
  bare : Option A → Option (Unit {0})
  bare None = None
  bare (Some x) = Some tt

  is_none-bare : (slot : Option A) → is_none (bare slot) ≡ is_none slot
  unfolding bare
  is_none-bare None = refl
  is_none-bare (Some x) = refl

  count-bare : (slots : List (Option A)) → count_by is_none (map bare slots) ≡ count_by is_none slots
  count-bare [] = refl
  count-bare (slot ∷ slots) =
      let one : count_by is_none (map bare (slot ∷ slots)) ≡ cond (is_none (bare slot)) 1 0 + count_by is_none (map bare slots) = sum_by-cons (λ s. cond (is_none s) 1 0) (bare slot) (map bare slots) in
      let other : count_by is_none (slot ∷ slots) ≡ cond (is_none slot) 1 0 + count_by is_none slots = sum_by-cons (λ s. cond (is_none s) 1 0) slot slots in
      let same : ◌≡◌ {A = ℕ} (cond (is_none (bare slot)) 1 0) (cond (is_none slot) 1 0) = ap (λ b. cond b 1 0) (is_none-bare slot) in
      let rest = count-bare slots in
      omega (arith, one, other, same, rest)

  is_vacant-bare : (slots : List (Option A)) (id : ℕ) → is_vacant (map bare slots) id ≡ is_vacant slots id
  unfolding bare
  is_vacant-bare slots id =
      let long : length (map bare slots) ≡ length slots = length-map slots bare in
      let at : get_or (map bare slots) (id - 1) None ≡ bare (get_or slots (id - 1) None) = get_or-map bare slots (id - 1) None in
      let none : is_none (get_or (map bare slots) (id - 1) None) ≡ is_none (get_or slots (id - 1) None) = ap is_none at ∙ is_none-bare (get_or slots (id - 1) None) in
      grind (arith, nat_tests, long, none)

  -- as many ids are free as slots are empty
  pub counted : (t : Table A) → IsGood t → count_by is_none t.slots ≡ length t.free
  counted t good =
      let bare_good : IsGood (record { slots = map bare t.slots; free = t.free }) = λ id. good id ∙ ap once_if (sym (is_vacant-bare t.slots id)) in
      sym (count-bare t.slots) ∙ counted_bare (map bare t.slots) t.free bare_good

  pub fewer_free : (t : Table A) → IsGood t → length t.free ≤ length t.slots
  fewer_free t good = let few = count_by-le-length is_none t.slots in omega (arith, few, counted t good)
