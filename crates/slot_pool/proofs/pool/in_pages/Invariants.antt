use Rattle.std.proofs.Common.{◌≡◌, ◌≤◌, ◌++◌, length}
use Rattle.std.specs.Prelude.{map}
use Rattle.std.specs.Vec.Iter.{into_iter_items, into_iter_len}
use Rattle.slot_pool.specs.Stacking.{content}
use Rattle.slot_pool.proofs.pool.in_pages.Given as goal

abbrev pub invariant-loop-slot : goal.invariant-loop-slot
invariant-loop-slot g l = record {
  slots : map content l.paged.slots ++ into_iter_items l.slot-iterator ≡ l.fn.slots.items;
  counted : into_iter_len l.slot-iterator ≡ length (into_iter_items l.slot-iterator);
  room : length l.fn.slots.items ≤ l.paged.room;
}
