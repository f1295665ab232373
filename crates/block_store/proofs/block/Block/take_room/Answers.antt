use Rattle.block_store.proofs.block.Block.take_room.Goals as goal

pub invariant_of-self : goal.invariant_of-self
invariant_of-self c = rw (c.take_room.ensures.block) (c.self.invariant)
