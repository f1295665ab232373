use Rattle.block_store.proofs.ConsistentMoves.{consistent_net}
use Rattle.block_store.proofs.block.Block.set_net.Goals as goal

pub invariant_of-self : goal.invariant_of-self
invariant_of-self g c = rw (c.set_net.ensures.block) (consistent_net c.args.kind c.args.id c.args.net _ c.self.invariant)
