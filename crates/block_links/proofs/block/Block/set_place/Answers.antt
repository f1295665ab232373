use Rattle.block_links.proofs.FieldMoves.{become_place}
use Rattle.block_links.proofs.block.Block.set_place.Goals as goal

pub invariant_of-self : goal.invariant_of-self
invariant_of-self g c = ((become_place c.self.inside.pools.cells _ c.self.invariant.0 c.args.kind c.args.id c.args.place c.set_place.ensures.cells).lawful, c.self.invariant.1)

pub returns-clause-block : goal.returns-clause-block
returns-clause-block g c = rw (← c.self.view_is) ((become_place c.self.inside.pools.cells _ c.self.invariant.0 c.args.kind c.args.id c.args.place c.set_place.ensures.cells).block)
