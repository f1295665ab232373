use Rattle.std.proofs.Common.{◌≢◌, [], arith}
use Rattle.slot_pool.specs.Stacking.{free_from}
use Rattle.slot_pool.proofs.Keeping.{back-used, live-used, some_free, table-used, top_place, top_read, IsKept-used}
use Rattle.slot_pool.proofs.pool.SlotPool.ungive.Goals as goal

pub overflow_sub-id : goal.overflow_sub-id
overflow_sub-id g c =
    let held : free_from c.self.inside.slots.slots c.self.inside.free c.self.inside.top ≢ [] = rw (← c.self.view_is) at c.requires in
    let some = some_free c.self.inside.slots.slots c.self.inside.free c.self.inside.top 0 0 held in
    (top_place c.self.inside.slots.slots c.self.inside.free c.self.inside.top c.self.inside.slots.room c.self.inside.cap some c.self.invariant).0

pub put-requires : goal.put-requires
put-requires g c =
    let held : free_from c.self.inside.slots.slots c.self.inside.free c.self.inside.top ≢ [] = rw (← c.self.view_is) at c.requires in
    let some = some_free c.self.inside.slots.slots c.self.inside.free c.self.inside.top 0 0 held in
    let place = top_place c.self.inside.slots.slots c.self.inside.free c.self.inside.top c.self.inside.slots.room c.self.inside.cap some c.self.invariant in
    omega (arith, place.0, place.1)

pub below_of-self-inside-requires : goal.below_of-self-inside-requires
below_of-self-inside-requires g c =
    let held : free_from c.self.inside.slots.slots c.self.inside.free c.self.inside.top ≢ [] = rw (← c.self.view_is) at c.requires in
    let some = some_free c.self.inside.slots.slots c.self.inside.free c.self.inside.top 0 0 held in
    top_read c.self.inside.slots.slots c.self.inside.free c.self.inside.top c.self.inside.slots.room c.self.inside.cap c.put.result some c.self.invariant c.put.ensures.was

pub invariant_of-self : goal.invariant_of-self
invariant_of-self g c =
    let held : free_from c.self.inside.slots.slots c.self.inside.free c.self.inside.top ≢ [] = rw (← c.self.view_is) at c.requires in
    let some = some_free c.self.inside.slots.slots c.self.inside.free c.self.inside.top 0 0 held in
    rw (c.put.ensures.slots, c.put.ensures.room, c.below_of-self-inside.ensures) (IsKept-used _ _ _ _ _ c.args.value c.put.result some c.self.invariant c.put.ensures.was)

pub returns-clause-table : goal.returns-clause-table
returns-clause-table g c =
    let held : free_from c.self.inside.slots.slots c.self.inside.free c.self.inside.top ≢ [] = rw (← c.self.view_is) at c.requires in
    let some = some_free c.self.inside.slots.slots c.self.inside.free c.self.inside.top 0 0 held in
    rw (c.put.ensures.slots, c.below_of-self-inside.ensures, ← c.self.view_is) (table-used _ _ _ _ _ c.args.value c.put.result some c.self.invariant c.put.ensures.was)

pub returns-clause-back : goal.returns-clause-back
returns-clause-back g c =
    let held : free_from c.self.inside.slots.slots c.self.inside.free c.self.inside.top ≢ [] = rw (← c.self.view_is) at c.requires in
    let some = some_free c.self.inside.slots.slots c.self.inside.free c.self.inside.top 0 0 held in
    rw (c.put.ensures.slots, c.below_of-self-inside.ensures, ← c.self.view_is) (back-used _ _ _ _ _ c.args.value c.put.result some c.self.invariant c.put.ensures.was)

pub returns-clause-live : goal.returns-clause-live
returns-clause-live g c =
    let held : free_from c.self.inside.slots.slots c.self.inside.free c.self.inside.top ≢ [] = rw (← c.self.view_is) at c.requires in
    let some = some_free c.self.inside.slots.slots c.self.inside.free c.self.inside.top 0 0 held in
    rw c.put.ensures.slots (live-used _ _ _ _ _ c.args.value c.put.result some c.self.invariant c.put.ensures.was)
