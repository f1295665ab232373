use Rattle.std.proofs.Common.{◌≡◌, ◌+◌, ◌≤◌, [], length, arith}
use Rattle.slot_pool.specs.Layout.{spare_of}
use Rattle.slot_pool.specs.Stacking.{free_from}
use Rattle.slot_pool.proofs.Keeping.{back-added, can-added, none_free, table-added, IsKept-added}
use Rattle.slot_pool.proofs.pool.SlotPool.grow.Goals as goal

pub invariant_of-self : goal.invariant_of-self
invariant_of-self g c =
    let free : free_from c.self.inside.slots.slots c.self.inside.free c.self.inside.top ≡ [] = rw (← c.self.view_is) at c.requires.none_free in
    let none = none_free _ _ _ 0 0 free in
    let spare : 1 ≤ spare_of (length c.self.inside.slots.slots) c.self.inside.free c.self.inside.slots.room c.self.inside.cap = rw (← c.self.view_is) at c.requires.spare in
    rw (c.push.ensures.slots, c.push.ensures.room) (IsKept-added _ _ _ _ _ c.args.value none spare c.self.invariant)

pub returns-clause-table : goal.returns-clause-table
returns-clause-table g c =
    let free : free_from c.self.inside.slots.slots c.self.inside.free c.self.inside.top ≡ [] = rw (← c.self.view_is) at c.requires.none_free in
    let none = none_free _ _ _ 0 0 free in
    rw (c.push.ensures.slots, ← c.self.view_is) (table-added _ _ _ 0 0 c.args.value none)

pub returns-clause-back : goal.returns-clause-back
returns-clause-back g c =
    let free : free_from c.self.inside.slots.slots c.self.inside.free c.self.inside.top ≡ [] = rw (← c.self.view_is) at c.requires.none_free in
    let none = none_free _ _ _ 0 0 free in
    rw (c.push.ensures.slots, ← c.self.view_is) (back-added _ _ _ 0 0 c.args.value (c.len.result + 1) none)

pub returns-clause-can : goal.returns-clause-can
returns-clause-can g c =
    let free : free_from c.self.inside.slots.slots c.self.inside.free c.self.inside.top ≡ [] = rw (← c.self.view_is) at c.requires.none_free in
    let none = none_free _ _ _ 0 0 free in
    rw c.push.ensures.slots (can-added _ _ _ 0 0 c.args.value (c.len.result + 1) none (omega (arith, c.len.ensures.count)))
