use Rattle.block_store.proofs.block.Block.with_tables.Goals as goal

pub invariant_of-result : goal.invariant_of-result
invariant_of-result c = rw (c.in_ok-with_tables.ensures.block) (c.requires.consistent)
