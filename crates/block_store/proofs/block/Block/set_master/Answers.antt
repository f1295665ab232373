use Rattle.block_store.proofs.ConsistentMoves.{consistent_master}
use Rattle.block_store.proofs.block.Block.set_master.Goals as goal

pub invariant_of-self : goal.invariant_of-self
invariant_of-self g c = rw (c.set_master.ensures.block) (consistent_master c.args.id c.args.master _ c.self.invariant)
