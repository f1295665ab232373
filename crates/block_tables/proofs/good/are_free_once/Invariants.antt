use Rattle.std.proofs.Common.{◌≡◌, ◌≤◌, ℕ, get_or}
use Rattle.slot_pool.specs.Table.{is_vacant, once_if}
use Rattle.block_tables.proofs.good.are_free_once.Given as goal

abbrev pub invariant-loop-place : goal.invariant-loop-place
invariant-loop-place g l = (id : ℕ) → id ≤ l.place → get_or l.counts id 0 ≡ once_if (is_vacant l.slots id)
