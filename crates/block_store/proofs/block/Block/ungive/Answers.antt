use Rattle.block_store.proofs.ConsistentMoves.{consistent_ungiven}
use Rattle.block_store.proofs.block.Block.ungive.Goals as goal

pub invariant_of-self : goal.invariant_of-self
invariant_of-self g c =
    let name = rw (← c.self.view_is) at c.requires.name in
    rw (c.ungive.ensures.block) (consistent_ungiven c.args.object _ name c.self.invariant)
