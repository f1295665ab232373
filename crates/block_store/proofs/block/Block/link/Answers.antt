use Rattle.block_store.proofs.ConsistentLists.{consistent_linked}
use Rattle.block_store.proofs.block.Block.link.Goals as goal

pub invariant_of-self : goal.invariant_of-self
invariant_of-self g c =
    let enter = rw (← c.self.view_is) at c.requires.enter in
    rw (c.change_list.ensures.block) (consistent_linked c.args.list c.args.member _ enter c.self.invariant)
