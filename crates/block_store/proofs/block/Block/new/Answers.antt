use Rattle.block_store.proofs.ConsistentWhereSound.{consistent_empty}
use Rattle.block_store.proofs.block.Block.new.Goals as goal

pub invariant_of-result : goal.invariant_of-result
invariant_of-result c = rw (c.in_ok-new.ensures.block) consistent_empty
