use Rattle.block_store.proofs.ConsistentLists.{consistent_relinked}
use Rattle.block_store.proofs.block.Block.relink.Goals as goal

pub invariant_of-self : goal.invariant_of-self
invariant_of-self g c =
    let enter = rw (← c.self.view_is) at c.requires.enter in
    rw (c.change_list.ensures.block) (consistent_relinked c.args.list c.args.member _ c.args.next enter c.self.invariant)
