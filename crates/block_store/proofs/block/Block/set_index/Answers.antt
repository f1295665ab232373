use Rattle.block_store.proofs.ConsistentMoves.{consistent_index}
use Rattle.block_store.proofs.block.Block.set_index.Goals as goal

pub invariant_of-self : goal.invariant_of-self
invariant_of-self g c = rw (c.set_index.ensures.block) (consistent_index c.args.id c.args.index _ c.self.invariant)
