use Rattle.block_store.proofs.block.Block.room_in.Goals as goal

pub invariant_of-self : goal.invariant_of-self
invariant_of-self c = rw (c.room_for.ensures.block) (c.self.invariant)
