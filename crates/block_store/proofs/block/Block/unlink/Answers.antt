use Rattle.block_store.proofs.ConsistentLists.{consistent_unlinked}
use Rattle.block_store.proofs.block.Block.unlink.Goals as goal

pub invariant_of-self : goal.invariant_of-self
invariant_of-self g c =
    let has = rw (← c.self.view_is) at c.requires.has in
    rw (c.change_list.ensures.block) (consistent_unlinked c.args.list c.args.member _ has c.self.invariant)
