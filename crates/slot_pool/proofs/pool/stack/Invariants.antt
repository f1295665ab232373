use Rattle.std.proofs.Common.{◌≡◌}
use Rattle.slot_pool.proofs.Stacked.{IsStacked}
use Rattle.slot_pool.proofs.pool.stack.Given as goal

abbrev pub invariant-loop-index : goal.invariant-loop-index
invariant-loop-index g l = IsStacked l.free l.index l.initial.slots.slots l.slots.slots l.top × (l.slots.room ≡ l.initial.slots.room)
