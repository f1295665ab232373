use Rattle.std.proofs.Common.{◌≡◌}
use Rattle.slot_pool.specs.Stacking.{under}
use Rattle.slot_pool.proofs.pool.SlotPool.free_id.Given as goal

abbrev pub invariant-loop : goal.invariant-loop
invariant-loop g l = l.id ≡ under l.self-inside.slots.slots l.counter l.self-inside.top
