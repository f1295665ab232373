-- How slots lie in pages of 128. No public clause cites this module.
use Rattle.std.specs.Prelude.{◌≡◌, ℕ, ◌-◌, ◌*◌, ◌/◌, ◌%◌, ◌≤◌, List, [], length, map, min, slice_index_or}
use Rattle.std.specs.List.{range_with_len}
use Rattle.slot_pool.specs.declared.slot.Slot.{Slot}
use Rattle.slot_pool.specs.declared.slot.Slot.TheVariants as slot

-- slots one after another, and for how many there are pages
pub record Paged (A : Type 0) : Type 0 where
  pub slots : List (Slot A)
  pub room : ℕ

module _ {A : Type 0} where
  -- an empty slot that nothing stands below
  abbrev pub vacant : Slot A
  vacant = slot.Free 0

  -- the slots of a page, counted from 0
  abbrev pub page_at : List (List (Slot A)) → ℕ → List (Slot A)
  page_at pages i = slice_index_or pages i []

  -- the slot at a place, counted from 0
  abbrev pub slot_at : List (List (Slot A)) → ℕ → Slot A
  slot_at pages place = slice_index_or (page_at pages (place / 128)) (place % 128) vacant

  -- so many slots in these pages, one after another
  abbrev pub slots_in : List (List (Slot A)) → ℕ → List (Slot A)
  slots_in pages count = map (slot_at pages) (range_with_len 0 count)

  -- the pages have so many slots, each page before the last of them is full, and those behind it are empty
  pub record IsPaged (pages : List (List (Slot A))) (count : ℕ) : Type 0 where
    pub filled : (i : ℕ) → length (page_at pages i) ≡ min 128 (count - 128 * i)
    pub enough : count ≤ 128 * length pages
