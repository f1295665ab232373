-- What the iterator has left is still to be written.
use Rattle.std.proofs.Common.{◌≡◌, ◌++◌}
use Rattle.std.specs.List.{flat_map}
use Rattle.block_store.specs.Lists.{list_at}
use Rattle.odb_fields.specs.Fields.{u32_bytes}
use Rattle.odb_fields.specs.Putting.{KeepsVector, bytes_in}
use Rattle.saved_reader.proofs.saves.put_members.Given as goal

abbrev pub invariant-loop-member : goal.invariant-loop-member
invariant-loop-member l = record {
  bytes : bytes_in l.put ++ flat_map u32_bytes l.member-iterator ≡ bytes_in l.initial.put ++ flat_map u32_bytes (list_at l.fn.list l.block.block);
  vector : KeepsVector l.fn.put l.put;
}
