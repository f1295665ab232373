use Rattle.std.proofs.Common.{arith}
use Rattle.std.specs.Prelude.{map}
use Rattle.std.proofs.lemmas.List.{length-map}
use Rattle.slot_pool.specs.Stacking.{content, stack_table}
use Rattle.slot_pool.proofs.Counted.{counted, fewer_free}
use Rattle.slot_pool.proofs.Counts.{empty_and_live}
use Rattle.slot_pool.proofs.Stacking.{length-free_from}
use Rattle.slot_pool.proofs.pool.SlotPool.live_count.Goals as goal

pub overflow_sub-result : goal.overflow_sub-result
overflow_sub-result g c =
    let few = fewer_free (stack_table c.self.inside.slots.slots c.self.inside.free c.self.inside.top) c.self.invariant.good in
    omega (arith, few, length-map c.self.inside.slots.slots content, length-free_from c.self.inside.slots.slots c.self.inside.free c.self.inside.top, c.len.ensures.count)

pub returns-clause-count : goal.returns-clause-count
returns-clause-count g c =
    let empty = counted (stack_table c.self.inside.slots.slots c.self.inside.free c.self.inside.top) c.self.invariant.good in
    let both = empty_and_live (map content c.self.inside.slots.slots) in
    rw (← c.self.view_is) (omega (arith, empty, both, length-map c.self.inside.slots.slots content, length-free_from c.self.inside.slots.slots c.self.inside.free c.self.inside.top, c.len.ensures.count))

pub returns-clause-others : goal.returns-clause-others
returns-clause-others g c =
    let few = fewer_free (stack_table c.self.inside.slots.slots c.self.inside.free c.self.inside.top) c.self.invariant.good in
    rw (← c.self.view_is) (omega (arith, few, length-map c.self.inside.slots.slots content, length-free_from c.self.inside.slots.slots c.self.inside.free c.self.inside.top, c.len.ensures.count))
