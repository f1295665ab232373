use Rattle.std.proofs.Common.{◌≤◌, ℕ}
use Rattle.block_tables.specs.Rules.{IsSoundRecord}
use Rattle.block_tables.proofs.judge.Judge.first_unsound.Given as goal

abbrev pub invariant-loop-place : goal.invariant-loop-place
invariant-loop-place l = (id : ℕ) → id ≤ l.place → IsSoundRecord l.self.tech.now l.self.library.now l.self.tables.now l.kind id
