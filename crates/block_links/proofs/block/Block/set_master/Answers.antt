use Rattle.block_links.proofs.FieldMoves.{become_master}
use Rattle.block_links.proofs.block.Block.set_master.Goals as goal

pub invariant_of-self : goal.invariant_of-self
invariant_of-self g c = ((become_master c.self.inside.pools.cells _ c.self.invariant.0 c.args.id c.args.master c.set_master.ensures.cells).lawful, c.self.invariant.1)

pub returns-clause-block : goal.returns-clause-block
returns-clause-block g c = rw (← c.self.view_is) ((become_master c.self.inside.pools.cells _ c.self.invariant.0 c.args.id c.args.master c.set_master.ensures.cells).block)
