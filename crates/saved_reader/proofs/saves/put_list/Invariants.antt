-- The items from this index on are still to be written.
use Rattle.std.proofs.Common.{◌≡◌, ◌++◌, drop}
use Rattle.std.specs.List.{flat_map}
use Rattle.odb_fields.specs.Putting.{KeepsVector, bytes_in}
use Rattle.saved_reader.proofs.saves.put_list.Given as goal

abbrev pub invariant-loop-item : goal.invariant-loop-item
invariant-loop-item g l = record {
  bytes : bytes_in l.put ++ flat_map g.T.Saves.bytes_of (drop l.item-index l.items) ≡ bytes_in l.initial.put ++ flat_map g.T.Saves.bytes_of l.items;
  vector : KeepsVector l.fn.put l.put;
}
