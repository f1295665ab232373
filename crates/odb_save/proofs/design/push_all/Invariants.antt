-- The parts of the things that were put, and the things that are left.
use Rattle.std.proofs.Common.{◌≡◌, ◌++◌, map, length}
use Rattle.std.specs.Vec.Iter.{into_iter_items, into_iter_len}
use Rattle.odb_save.proofs.design.push_all.Given as goal

abbrev pub invariant-loop-thing : goal.invariant-loop-thing
invariant-loop-thing g l = record {
  parts : l.parts.items ++ map g.T.Part.part_of (into_iter_items l.thing-iterator) ≡ l.initial.parts.items ++ map g.T.Part.part_of l.fn.things;
  counted : into_iter_len l.thing-iterator ≡ length (into_iter_items l.thing-iterator);
}
