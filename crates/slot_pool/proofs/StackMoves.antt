-- Moves on slots with their stack are the moves on its table.
use Rattle.std.proofs.Common.{◌≡◌, ℕ, suc, ◌-◌, ◌≤◌, true, List, length, set, Some, None, ap, ◌∙◌, arith}
use Rattle.std.specs.Prelude.{map}
use Rattle.std.proofs.lemmas.List.{length-map, map-set}
use Rattle.slot_pool.specs.declared.slot.Slot.{Slot}
use Rattle.slot_pool.specs.declared.slot.Slot.TheVariants as slot
use Rattle.slot_pool.specs.Stacking.{content, below_at, free_from, under, stack_table}
use Rattle.slot_pool.specs.Table.{Table, times, once_if, is_live, with_slot, IsGood, taken, given, replaced}
use Rattle.slot_pool.proofs.Counts.{vacant_within, live_within}
use Rattle.slot_pool.proofs.Tables.{top_is}
use Rattle.slot_pool.proofs.Stacking.{free_stays, free_from-given}

module _ {A : Type 0} (slots : List (Slot A)) (count top : ℕ) where
  -- the slots of the table after a change of one
  content-set : (id : ℕ) (new : Slot A) → map content (set slots (id - 1) new) ≡ with_slot id (content new) (map content slots)
  content-set id new = map-set content slots (id - 1) new

  -- the stack holds no id with a record
  pub live_outside : (id : ℕ) → IsGood (stack_table slots count top) → is_live (stack_table slots count top) id ≡ true → (1 ≤ id) × (id ≤ length slots) × (times id (free_from slots count top) ≡ 0)
  live_outside id good live =
      let was = live_within (map content slots) id live in
      (was.0, omega (arith, was.1, length-map slots content), good id ∙ ap once_if was.3)

  -- a live slot is emptied, and its id goes on top
  pub stack-given : (id : ℕ) → IsGood (stack_table slots count top) → is_live (stack_table slots count top) id ≡ true → (stack_table (set slots (id - 1) (slot.Free top)) (suc count) id ≡ given id (stack_table slots count top)) × (under (set slots (id - 1) (slot.Free top)) (suc count) id ≡ under slots count top)
  stack-given id good live =
      let out = live_outside id good live in
      let moved = free_from-given slots count top id out.0 out.1 out.2 in
      let free = free_from (set slots (id - 1) (slot.Free top)) (suc count) id in
      (ap {B = Table A} (λ s. record { slots = s; free = free }) (content-set id (slot.Free top)) ∙ ap {B = Table A} (λ ids. record { slots = with_slot id None (map content slots); free = ids }) moved.0, moved.1)

  -- a live slot has another record
  pub stack-replaced : (id : ℕ) (x : A) → IsGood (stack_table slots count top) → is_live (stack_table slots count top) id ≡ true → (stack_table (set slots (id - 1) (slot.Live x)) count top ≡ replaced id x (stack_table slots count top)) × (under (set slots (id - 1) (slot.Live x)) count top ≡ under slots count top)
  stack-replaced id x good live =
      let out = live_outside id good live in
      let moved = free_stays slots count top id (slot.Live x) out.0 out.2 in
      (ap {B = Table A} (λ s. record { slots = s; free = free_from (set slots (id - 1) (slot.Live x)) count top }) (content-set id (slot.Live x)) ∙ ap {B = Table A} (λ ids. record { slots = with_slot id (Some x) (map content slots); free = ids }) moved.0, moved.1)

  -- the top is used for a record
  pub stack-taken : (x : A) → IsGood (stack_table slots (suc count) top) → (stack_table (set slots (top - 1) (slot.Live x)) count (below_at slots top) ≡ taken x (stack_table slots (suc count) top)) × (under (set slots (top - 1) (slot.Live x)) count (below_at slots top) ≡ under slots (suc count) top)
  stack-taken x good =
      let was = top_is (map content slots) top (free_from slots count (below_at slots top)) good in
      let some = (vacant_within (map content slots) top was.0).0 in
      let moved = free_stays slots count (below_at slots top) top (slot.Live x) some was.1 in
      (ap {B = Table A} (λ s. record { slots = s; free = free_from (set slots (top - 1) (slot.Live x)) count (below_at slots top) }) (content-set top (slot.Live x)) ∙ ap {B = Table A} (λ ids. record { slots = with_slot top (Some x) (map content slots); free = ids }) moved.0, moved.1)
