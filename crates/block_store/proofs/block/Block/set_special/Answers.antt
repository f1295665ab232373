use Rattle.block_store.proofs.ConsistentMoves.{consistent_special}
use Rattle.block_store.proofs.block.Block.set_special.Goals as goal

pub invariant_of-self : goal.invariant_of-self
invariant_of-self g c = rw (c.set_special.ensures.block) (consistent_special c.args.id c.args.special _ c.self.invariant)
