use Rattle.std.proofs.Common.{◌≡◌, ◌<◌, ℕ, length, get_or}
use Rattle.block_tables.specs.Indexes.{standing_up_to}
use Rattle.block_tables.proofs.standing.standing.Given as goal

abbrev pub invariant-loop-place : goal.invariant-loop-place
invariant-loop-place l = (length l.counts.items ≡ l.limit) × ((number : ℕ) → number < l.limit → get_or l.counts.items number 0 ≡ standing_up_to l.tables l.place number)
