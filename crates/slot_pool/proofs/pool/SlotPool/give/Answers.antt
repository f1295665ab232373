use Rattle.std.proofs.Common.{◌≡◌, ◌∙◌, true, ap, arith}
use Rattle.slot_pool.specs.Stacking.{stack_table}
use Rattle.slot_pool.specs.Table.{is_live, ungiven}
use Rattle.slot_pool.proofs.Tables.{taken-given}
use Rattle.slot_pool.proofs.Keeping.{content_read, free_below, record_read, table-given, IsKept-given}
use Rattle.slot_pool.proofs.pool.SlotPool.give.Goals as goal

pub overflow_add-self : goal.overflow_add-self
overflow_add-self g c =
    let live : is_live (stack_table c.self.inside.slots.slots c.self.inside.free c.self.inside.top) c.args.id ≡ true = rw (← c.self.view_is) at c.requires in
    omega (arith, free_below c.self.inside.slots.slots c.self.inside.free c.self.inside.top c.args.id c.self.invariant.good live, c.self.invariant.capped, c.self.ranges)

pub record_of-requires : goal.record_of-requires
record_of-requires g c =
    let live : is_live (stack_table c.self.inside.slots.slots c.self.inside.free c.self.inside.top) c.args.id ≡ true = rw (← c.self.view_is) at c.requires in
    content_read c.self.inside.slots.slots c.self.inside.free c.self.inside.top c.args.id c.put-slot.result live c.put-slot.ensures.was

pub invariant_of-self : goal.invariant_of-self
invariant_of-self g c =
    let live : is_live (stack_table c.self.inside.slots.slots c.self.inside.free c.self.inside.top) c.args.id ≡ true = rw (← c.self.view_is) at c.requires in
    rw (c.put-slot.ensures.slots, c.put-slot.ensures.room) (IsKept-given _ _ _ _ _ c.args.id c.self.invariant live)

pub returns-clause-value : goal.returns-clause-value
returns-clause-value g c =
    let live : is_live (stack_table c.self.inside.slots.slots c.self.inside.free c.self.inside.top) c.args.id ≡ true = rw (← c.self.view_is) at c.requires in
    rw (← c.self.view_is) (record_read c.self.inside.slots.slots c.self.inside.free c.self.inside.top c.args.id c.put-slot.result live c.put-slot.ensures.was ∙ c.record_of.ensures)

pub returns-clause-table : goal.returns-clause-table
returns-clause-table g c =
    let live : is_live (stack_table c.self.inside.slots.slots c.self.inside.free c.self.inside.top) c.args.id ≡ true = rw (← c.self.view_is) at c.requires in
    rw (c.put-slot.ensures.slots, ← c.self.view_is) (table-given _ _ _ _ _ c.args.id c.self.invariant live)

pub returns-clause-back : goal.returns-clause-back
returns-clause-back g c =
    let live : is_live (stack_table c.self.inside.slots.slots c.self.inside.free c.self.inside.top) c.args.id ≡ true = rw (← c.self.view_is) at c.requires in
    let held = record_read c.self.inside.slots.slots c.self.inside.free c.self.inside.top c.args.id c.put-slot.result live c.put-slot.ensures.was ∙ c.record_of.ensures in
    let table = table-given _ _ _ _ _ c.args.id c.self.invariant live in
    rw (c.put-slot.ensures.slots, ← c.self.view_is) (ap (ungiven c.record_of.result) table ∙ taken-given c.record_of.result c.args.id _ held)
