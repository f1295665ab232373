use Rattle.std.proofs.Common.{◌≡◌, ◌<◌, ℕ, length, get_or, take}
use Rattle.block_tables.specs.Counting.{often}
use Rattle.block_tables.proofs.tally.tally.Given as goal

abbrev pub invariant-loop-number : goal.invariant-loop-number
invariant-loop-number l = (length l.counts.items ≡ l.limit) × ((number : ℕ) → number < l.limit → get_or l.counts.items number 0 ≡ often number (take l.number-index l.numbers))
