-- The tables of the kinds from this index on are still to be written.
use Rattle.std.proofs.Common.{◌≡◌, ◌++◌, drop}
use Rattle.std.specs.List.{flat_map}
use Rattle.odb_base.specs.Kind.{kinds}
use Rattle.odb_fields.specs.Putting.{KeepsVector, bytes_in}
use Rattle.odb_save.specs.Kinds.{table_in}
use Rattle.odb_save.proofs.tables.put_tables.Given as goal

abbrev pub invariant-loop-kind : goal.invariant-loop-kind
invariant-loop-kind l = record {
  bytes : bytes_in l.put ++ flat_map (λ k. table_in k l.db.block) (drop l.kind-index kinds) ≡ bytes_in l.fn.put ++ flat_map (λ k. table_in k l.db.block) kinds;
  vector : KeepsVector l.fn.put l.put;
}
