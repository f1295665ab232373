-- What the iterator has left is still to be written.
use Rattle.std.proofs.Common.{◌≡◌, ◌++◌}
use Rattle.std.specs.List.{flat_map}
use Rattle.block_store.specs.declared.list_of.ListOf.TheVariants as list
use Rattle.block_store.specs.Lists.{list_at}
use Rattle.odb_fields.specs.Putting.{KeepsVector, bytes_in}
use Rattle.saved_fields.specs.Bytes.{term_bytes}
use Rattle.saved_reader.proofs.saves.put_terms.Given as goal

abbrev pub invariant-loop-term : goal.invariant-loop-term
invariant-loop-term l = record {
  bytes : bytes_in l.put ++ flat_map term_bytes l.term-iterator ≡ bytes_in l.initial.put ++ flat_map term_bytes (list_at (list.Terms l.fn.net) l.block.block);
  vector : KeepsVector l.fn.put l.put;
}
