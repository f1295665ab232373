-- The slots from this place on are still to be written.
use Rattle.std.proofs.Common.{◌≡◌, ◌++◌}
use Rattle.odb_fields.specs.Putting.{KeepsVector, bytes_in}
use Rattle.odb_save.specs.Kinds.{slots_behind}
use Rattle.odb_save.proofs.tables.put_slots.Given as goal

abbrev pub invariant-loop-place : goal.invariant-loop-place
invariant-loop-place l = record {
  bytes : bytes_in l.put ++ slots_behind l.place l.kind l.db.block ≡ bytes_in l.fn.put ++ slots_behind 0 l.kind l.db.block;
  vector : KeepsVector l.fn.put l.put;
}
