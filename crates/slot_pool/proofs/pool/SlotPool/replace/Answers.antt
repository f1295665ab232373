use Rattle.std.proofs.Common.{◌≡◌, ◌∙◌, true}
use Rattle.slot_pool.specs.Stacking.{stack_table}
use Rattle.slot_pool.specs.Table.{is_live}
use Rattle.slot_pool.proofs.Keeping.{record_read, table-replaced, IsKept-replaced}
use Rattle.slot_pool.proofs.pool.SlotPool.replace.Goals as goal

pub invariant_of-self : goal.invariant_of-self
invariant_of-self g c =
    let live : is_live (stack_table c.self.inside.slots.slots c.self.inside.free c.self.inside.top) c.args.id ≡ true = rw (← c.self.view_is) at c.requires in
    rw (c.put.ensures.slots, c.put.ensures.room) (IsKept-replaced _ _ _ _ _ c.args.id c.args.value c.self.invariant live)

pub returns-clause-value : goal.returns-clause-value
returns-clause-value g c =
    let live : is_live (stack_table c.self.inside.slots.slots c.self.inside.free c.self.inside.top) c.args.id ≡ true = rw (← c.self.view_is) at c.requires in
    rw (← c.self.view_is) (record_read c.self.inside.slots.slots c.self.inside.free c.self.inside.top c.args.id c.put.result live c.put.ensures.was ∙ c.record_of.ensures)

pub returns-clause-table : goal.returns-clause-table
returns-clause-table g c =
    let live : is_live (stack_table c.self.inside.slots.slots c.self.inside.free c.self.inside.top) c.args.id ≡ true = rw (← c.self.view_is) at c.requires in
    rw (c.put.ensures.slots, ← c.self.view_is) (table-replaced _ _ _ _ _ c.args.id c.args.value c.self.invariant live)
