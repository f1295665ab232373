use Rattle.std.proofs.Common.{◌≡◌, ◌<◌, ◌==◌, ℕ, length, get_or, take, if◌then◌else◌}
use Rattle.block_tables.specs.Counting.{often}
use Rattle.block_tables.specs.RuleNets.{term_net}
use Rattle.block_tables.proofs.standing.count_list.Given as goal

abbrev pub invariant-loop-number : goal.invariant-loop-number
invariant-loop-number l = (length l.counts.items ≡ length l.initial.counts.items) × ((number : ℕ) → number < length l.initial.counts.items → get_or l.counts.items number 0 ≡ (if term_net l.tables number == l.net then often number (take l.number-index l.numbers) else get_or l.initial.counts.items number 0))
