use Rattle.block_store.proofs.ConsistentMoves.{consistent_usage}
use Rattle.block_store.proofs.block.Block.set_usage.Goals as goal

pub invariant_of-self : goal.invariant_of-self
invariant_of-self g c = rw (c.set_usage.ensures.block) (consistent_usage c.args.kind c.args.id c.args.usage _ c.self.invariant)
