-- The stack of free ids inside the empty slots. No public clause cites this module.
use Rattle.std.specs.Prelude.{ℕ, zero, suc, List, [], ◌∷◌, Option, Some, None, map, slice_index_or}
use Rattle.slot_pool.specs.declared.slot.Slot.{Slot}
use Rattle.slot_pool.specs.declared.slot.Slot.TheVariants as slot
use Rattle.slot_pool.specs.Paging.{vacant}
use Rattle.slot_pool.specs.Table.{Table}

module _ {A : Type 0} where
  -- the record of a slot
  abbrev pub content : Slot A → Option A
  content (slot.Live x) = Some x
  content (slot.Free below) = None

  -- the id that stands next below that of an empty slot
  abbrev pub below : Slot A → ℕ
  below (slot.Live x) = 0
  below (slot.Free under) = under

  -- the id that stands next below this one; 0 has no slot
  abbrev pub below_at : List (Slot A) → ℕ → ℕ
  below_at slots zero = 0
  below_at slots (suc place) = below (slice_index_or slots place vacant)

  -- so many ids from this one down
  abbrev pub free_from : List (Slot A) → ℕ → ℕ → List ℕ
  free_from slots zero top = []
  free_from slots (suc count) top = top ∷ free_from slots count (below_at slots top)

  -- the id that stands so many below this one
  abbrev pub under : List (Slot A) → ℕ → ℕ → ℕ
  under slots zero top = top
  under slots (suc count) top = under slots count (below_at slots top)

  -- the table of these slots, with so many free ids from the top down
  abbrev pub stack_table : List (Slot A) → ℕ → ℕ → Table A
  stack_table slots count top = record { slots = map content slots; free = free_from slots count top }
