use Rattle.block_store.proofs.ConsistentMoves.{consistent_place}
use Rattle.block_store.proofs.block.Block.set_place.Goals as goal

pub invariant_of-self : goal.invariant_of-self
invariant_of-self g c = rw (c.set_place.ensures.block) (consistent_place c.args.kind c.args.id c.args.place _ c.self.invariant)
