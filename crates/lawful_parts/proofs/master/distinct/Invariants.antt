use Rattle.std.proofs.Common.{◌≡◌, length}
use Rattle.lawful_parts.specs.Tests.{are_distinct}
use Rattle.lawful_parts.proofs.master.distinct.Given as goal

abbrev pub invariant-loop-rest : goal.invariant-loop-rest
invariant-loop-rest l = are_distinct l.rest ≡ are_distinct l.terminals

abbrev pub decreases-loop-rest : goal.decreases-loop-rest
decreases-loop-rest l = length l.rest
