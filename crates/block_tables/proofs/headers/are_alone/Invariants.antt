use Rattle.std.proofs.Common.{◌≡◌, ◌<◌, ℕ, Some, slice_get}
use Rattle.library.specs.declared.mterm.MTerm.{MTerm}
use Rattle.block_tables.specs.Counting.{holders_in}
use Rattle.block_tables.proofs.headers.are_alone.Given as goal

abbrev pub invariant-loop-terminal : goal.invariant-loop-terminal
invariant-loop-terminal l = (k : ℕ) (t : MTerm) → k < l.terminal-index → slice_get l.terminals k ≡ Some t → holders_in l.holders.counts t.name ≡ 1
