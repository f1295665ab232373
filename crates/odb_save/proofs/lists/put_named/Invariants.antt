-- The things from this place on are still to be written.
use Rattle.std.proofs.Common.{◌≡◌, ◌++◌, drop}
use Rattle.std.specs.List.{flat_map}
use Rattle.odb_fields.specs.Putting.{KeepsVector, bytes_in}
use Rattle.odb_save.proofs.lists.put_named.Given as goal

abbrev pub invariant-loop-place : goal.invariant-loop-place
invariant-loop-place g l = record {
  bytes : bytes_in l.put ++ flat_map g.T.Saves.bytes_of (drop l.place l.things) ≡ bytes_in l.initial.put ++ flat_map g.T.Saves.bytes_of l.things;
  vector : KeepsVector l.fn.put l.put;
}
