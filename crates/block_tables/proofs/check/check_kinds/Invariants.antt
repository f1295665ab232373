use Rattle.std.proofs.Common.{◌≤◌, ℕ}
use Rattle.odb_base.specs.Kind.{kind_code}
use Rattle.odb_base.specs.declared.codes.kind.Kind.{Kind}
use Rattle.block_store.specs.Block.{slots_in}
use Rattle.block_tables.specs.Rules.{IsSoundKind}
use Rattle.block_tables.proofs.check.check_kinds.Given as goal

abbrev pub invariant-loop-kind : goal.invariant-loop-kind
invariant-loop-kind l = (k : Kind) → kind_code k ≤ l.kind-index → (cap : ℕ) → slots_in k l.judge.tables.now ≤ cap → IsSoundKind l.judge.tech.now l.judge.library.now cap l.judge.tables.now k
