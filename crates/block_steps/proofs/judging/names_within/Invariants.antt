use Rattle.block_steps.proofs.Judged.{AreWithinTo}
use Rattle.block_steps.proofs.judging.names_within.Given as goal

abbrev pub invariant-loop-term : goal.invariant-loop-term
invariant-loop-term l = AreWithinTo l.one l.other l.term-index
