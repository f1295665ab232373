use Rattle.block_store.proofs.ConsistentMoves.{consistent_terminals}
use Rattle.block_store.proofs.block.Block.set_terminals.Goals as goal

pub invariant_of-self : goal.invariant_of-self
invariant_of-self g c = rw (c.set_terminals.ensures.block) (consistent_terminals c.args.id c.args.terminals _ c.self.invariant)
