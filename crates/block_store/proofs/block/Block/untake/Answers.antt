use Rattle.block_store.proofs.ConsistentMoves.{consistent_untaken}
use Rattle.block_store.proofs.block.Block.untake.Goals as goal

pub invariant_of-self : goal.invariant_of-self
invariant_of-self g c =
    let can = rw (← c.self.view_is) at c.requires.can in
    let alone = rw (← c.self.view_is) at c.requires.alone in
    rw (c.untake.ensures.block) (consistent_untaken c.args.kind c.args.id c.args.grew _ can alone c.self.invariant)
