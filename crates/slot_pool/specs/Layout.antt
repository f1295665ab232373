-- How a pool lays out its table. No public clause cites this module.
use Rattle.std.specs.Prelude.{◌≡◌, ℕ, ◌+◌, ◌-◌, ◌≤◌, List, length, min}
use Rattle.slot_pool.specs.declared.slot.Slot.{Slot}
use Rattle.slot_pool.specs.Stacking.{stack_table, under}
use Rattle.slot_pool.specs.Table.{IsGood}

-- for how many takes there is memory, where the pages have room for so many slots in all: each free id is
-- one, and so is each further slot within the cap
abbrev pub spare_of : ℕ → ℕ → ℕ → ℕ → ℕ
spare_of slots free room cap = free + (min room cap - slots)

module _ {A : Type 0} where
  -- what a pool keeps: a good table within the cap and the pages, and 0 below the last free id
  pub record IsKept (slots : List (Slot A)) (count top room cap : ℕ) : Type 0 where
    pub good : IsGood (stack_table slots count top)
    pub ends : under slots count top ≡ 0
    pub capped : length slots ≤ cap
    pub in_pages : length slots ≤ room
