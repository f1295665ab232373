use Rattle.block_links.proofs.FieldMoves.{become_net}
use Rattle.block_links.proofs.block.Block.set_net.Goals as goal

pub invariant_of-self : goal.invariant_of-self
invariant_of-self g c = ((become_net c.self.inside.pools.cells _ c.self.invariant.0 c.args.kind c.args.id c.args.net c.set_net.ensures.cells).lawful, c.self.invariant.1)

pub returns-clause-block : goal.returns-clause-block
returns-clause-block g c = rw (← c.self.view_is) ((become_net c.self.inside.pools.cells _ c.self.invariant.0 c.args.kind c.args.id c.args.net c.set_net.ensures.cells).block)
