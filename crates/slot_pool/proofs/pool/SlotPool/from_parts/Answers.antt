use Rattle.std.proofs.Common.{arith}
use Rattle.slot_pool.proofs.Counted.{fewer_free}
use Rattle.slot_pool.proofs.pool.SlotPool.from_parts.Goals as goal

pub overflow_cast-count : goal.overflow_cast-count
overflow_cast-count g c =
    let few = fewer_free (record { slots = c.args.slots.items; free = c.args.free.items }) c.requires.good in
    omega (arith, few, c.requires.within, c.ranges.cap, c.len-count.ensures)
