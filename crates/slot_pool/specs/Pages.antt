-- What a page of a pool lends, in the words of the pool's table.
use Rattle.std.specs.Prelude.{ℕ, ◌==◌, List, [], ◌∷◌, Option, Some, None, if◌then◌else◌, slice_index_or}
use Rattle.slot_pool.specs.declared.slot.Slot.{Slot}
use Rattle.slot_pool.specs.declared.slot.Slot.TheVariants as slot
use Rattle.slot_pool.specs.Table.{Table, record_at}

-- the id that stands next below this one in a list, top first: 0 below the last
abbrev pub next_below : ℕ → List ℕ → ℕ
next_below id [] = 0
next_below id (top ∷ rest) = if top == id then slice_index_or rest 0 0 else next_below id rest

module _ {A : Type 0} where
  -- a slot with a record has this record, and one without has the id below
  abbrev pub slot_with : Option A → ℕ → Slot A
  slot_with (Some x) under = slot.Live x
  slot_with None under = slot.Free under

  -- the slot of an id: with its record, or else with the id that stands next below its own in the free list
  abbrev pub slot_of : Table A → ℕ → Slot A
  slot_of t id = slot_with (record_at t id) (next_below id t.free)
