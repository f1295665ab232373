use Rattle.std.proofs.Common.{◌≤◌}
use Rattle.odb_base.specs.Kind.{kind_code}
use Rattle.odb_base.specs.declared.codes.kind.Kind.{Kind}
use Rattle.block_store.specs.Block.{slots_in}
use Rattle.block_tables.proofs.caps.fits.Given as goal

abbrev pub invariant-loop-kind : goal.invariant-loop-kind
invariant-loop-kind l = (k : Kind) → kind_code k ≤ l.kind-index → slots_in k l.tables ≤ l.cap
