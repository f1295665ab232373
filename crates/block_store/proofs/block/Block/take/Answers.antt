use Rattle.block_store.proofs.ConsistentMoves.{consistent_taken}
use Rattle.block_store.proofs.block.Block.take.Goals as goal

pub invariant_of-self : goal.invariant_of-self
invariant_of-self g c =
    let name = rw (← c.self.view_is) at c.requires.name in
    rw (c.take.ensures.block) (consistent_taken c.args.object _ name c.self.invariant)
