-- What the iterator has left is still to be written.
use Rattle.std.proofs.Common.{◌≡◌, ◌++◌}
use Rattle.std.specs.List.{flat_map}
use Rattle.block_store.specs.Block.{free_in}
use Rattle.odb_fields.specs.Fields.{u32_bytes}
use Rattle.odb_fields.specs.Putting.{KeepsVector, bytes_in}
use Rattle.odb_save.proofs.lists.put_free.Given as goal

abbrev pub invariant-loop-id : goal.invariant-loop-id
invariant-loop-id l = record {
  bytes : bytes_in l.put ++ flat_map u32_bytes l.id-iterator ≡ bytes_in l.initial.put ++ flat_map u32_bytes (free_in l.fn.kind l.block.block);
  vector : KeepsVector l.fn.put l.put;
}
