-- The parts that were entered, and those that are left.
use Rattle.std.proofs.Common.{◌≡◌, length}
use Rattle.std.specs.Vec.Iter.{into_iter_items, into_iter_len}
use Rattle.tech_parts.proofs.Entered.{IsUnderWay}
use Rattle.tech_parts.proofs.adding.enter_all.Given as goal

abbrev pub invariant-loop-part : goal.invariant-loop-part
invariant-loop-part l = record {
  way : IsUnderWay l.fn.parts.items (into_iter_items l.part-iterator) l.at l.last l.fn.db l.db;
  counted : into_iter_len l.part-iterator ≡ length (into_iter_items l.part-iterator);
}
