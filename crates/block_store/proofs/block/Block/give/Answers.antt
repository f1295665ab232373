use Rattle.block_store.proofs.ConsistentMoves.{consistent_given}
use Rattle.block_store.proofs.block.Block.give.Goals as goal

pub invariant_of-self : goal.invariant_of-self
invariant_of-self g c =
    let live = rw (← c.self.view_is) at c.requires.live in
    let alone = rw (← c.self.view_is) at c.requires.alone in
    rw (c.give.ensures.block) (consistent_given c.args.kind c.args.id _ live alone c.self.invariant)
