use Rattle.std.proofs.Common.{◌≡◌, ◌<◌, ℕ, get_or}
use Rattle.block_tables.specs.RuleNets.{term_net}
use Rattle.block_tables.proofs.nets.are_terminals.Given as goal

abbrev pub invariant-loop-number : goal.invariant-loop-number
invariant-loop-number l = (k : ℕ) → k < l.number-index → (term_net l.tables (get_or l.numbers k 0) ≡ l.net) × (get_or l.standing (get_or l.numbers k 0) 0 ≡ 1)
