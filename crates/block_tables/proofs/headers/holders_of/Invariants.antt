use Rattle.std.proofs.Common.{take}
use Rattle.block_tables.specs.Indexes.{CountsNames}
use Rattle.block_tables.proofs.headers.holders_of.Given as goal

abbrev pub invariant-loop-terminal : goal.invariant-loop-terminal
invariant-loop-terminal l = CountsNames (λ t. t.name) (take l.terminal-index l.terminals) l.holders.counts
