use Rattle.std.proofs.Common.{take}
use Rattle.block_tables.specs.Indexes.{CountsHolders}
use Rattle.block_tables.proofs.names.holders_of.Given as goal

abbrev pub invariant-loop-slot : goal.invariant-loop-slot
invariant-loop-slot g l = CountsHolders g.T.Named.own_name (take l.slot-index l.slots) l.holders.counts
