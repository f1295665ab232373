use Rattle.block_store.proofs.ConsistentMoves.{consistent_direction}
use Rattle.block_store.proofs.block.Block.set_direction.Goals as goal

pub invariant_of-self : goal.invariant_of-self
invariant_of-self g c = rw (c.set_direction.ensures.block) (consistent_direction c.args.id c.args.direction _ c.self.invariant)
