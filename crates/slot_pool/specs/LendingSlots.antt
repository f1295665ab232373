-- What a slot, a page or the slots of a pool end as, where a `&mut` to a record in them is returned.
use Rattle.std.specs.Prelude.{ℕ, List, slice_set}
use Rattle.std.specs.Borrow.{Lends, Fml, RattleType, MutBor}
use Rattle.slot_pool.specs.declared.slot.Slot.{Slot}
use Rattle.slot_pool.specs.declared.slot.Slot.TheVariants as slot
use Rattle.slot_pool.specs.Paging.{Paged}
use Rattle.slot_pool.specs.contracts.slot.Slot as in_slot
use Rattle.slot_pool.specs.contracts.page.Page as in_page
use Rattle.slot_pool.specs.contracts.slots.Slots as in_slots

-- the slot has the last value written through r
abbrev pub LendsLive : (T : RattleType) → MutBor (Slot T.Denot) → MutBor T.Denot → Fml
LendsLive T lent r = Lends (in_slot.the_row T) T lent r (λ x. slot.Live x)

-- the slot at a place of the page has the last value written through r
abbrev pub LendsInPage : (T : RattleType) → MutBor (List (Slot T.Denot)) → ℕ → MutBor T.Denot → Fml
LendsInPage T page place r = Lends (in_page.the_row T) T page r (λ x. slice_set page.now place (slot.Live x))

-- the slot at a place has the last value written through r
abbrev pub LendsInSlots : (T : RattleType) → MutBor (Paged T.Denot) → ℕ → MutBor T.Denot → Fml
LendsInSlots T slots place r = Lends (in_slots.the_row T) T slots r (λ x. record slots.now { slots = slice_set slots.now.slots place (slot.Live x) })
