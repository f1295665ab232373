-- The pages so far have the same slots.
use Rattle.std.proofs.Common.{◌≡◌, ◌≤◌, ◌*◌}
use Rattle.slot_pool.proofs.slots.Slots.reserve.Given as goal

abbrev pub invariant-loop : goal.invariant-loop
invariant-loop g l =
    record {
      slots : l.self.slots ≡ l.fn.self.slots;
      room : l.fn.self.room ≤ l.self.room;
      made : 128 * l.counter ≤ l.self.room;
    }
