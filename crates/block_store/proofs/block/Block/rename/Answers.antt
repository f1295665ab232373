use Rattle.block_store.proofs.ConsistentMoves.{consistent_renamed}
use Rattle.block_store.proofs.block.Block.rename.Goals as goal

pub invariant_of-self : goal.invariant_of-self
invariant_of-self g c =
    let live = rw (← c.self.view_is) at c.requires.live in
    let free = rw (← c.self.view_is) at c.requires.free in
    rw (c.rename.ensures.block) (consistent_renamed c.args.kind c.args.id c.args.name _ live free c.self.invariant)
