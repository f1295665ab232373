use Rattle.block_links.proofs.FieldMoves.{become_usage}
use Rattle.block_links.proofs.Seen.{usage_cells}
use Rattle.std.proofs.Common.{◌∙◌}
use Rattle.block_links.proofs.block.Block.set_usage.Goals as goal

pub returns-clause-value : goal.returns-clause-value
returns-clause-value g c = rw (← c.self.view_is) (usage_cells c.self.inside.pools.cells c.args.kind c.args.id ∙ c.set_usage.ensures.value)

pub invariant_of-self : goal.invariant_of-self
invariant_of-self g c = ((become_usage c.self.inside.pools.cells _ c.self.invariant.0 c.args.kind c.args.id c.args.usage c.set_usage.ensures.cells).lawful, c.self.invariant.1)

pub returns-clause-block : goal.returns-clause-block
returns-clause-block g c = rw (← c.self.view_is) ((become_usage c.self.inside.pools.cells _ c.self.invariant.0 c.args.kind c.args.id c.args.usage c.set_usage.ensures.cells).block)
