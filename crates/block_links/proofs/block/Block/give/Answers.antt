use Rattle.block_links.proofs.Moves.{become_given}
use Rattle.block_links.proofs.Seen.{record_cells}
use Rattle.std.proofs.Common.{◌∙◌}
use Rattle.block_links.proofs.block.Block.give.Goals as goal

pub returns-clause-value : goal.returns-clause-value
returns-clause-value g c = rw (← c.self.view_is) (record_cells c.self.inside.pools.cells c.args.kind c.args.id ∙ c.give.ensures.value)

pub invariant_of-self : goal.invariant_of-self
invariant_of-self g c = let live = rw (← c.self.view_is) at c.requires.live in let alone = rw (← c.self.view_is) at c.requires.alone in ((become_given c.self.inside.pools.cells _ c.self.invariant.0 c.args.kind c.args.id live alone c.give.ensures.cells).lawful, c.self.invariant.1)

pub returns-clause-block : goal.returns-clause-block
returns-clause-block g c = let live = rw (← c.self.view_is) at c.requires.live in let alone = rw (← c.self.view_is) at c.requires.alone in rw (← c.self.view_is) ((become_given c.self.inside.pools.cells _ c.self.invariant.0 c.args.kind c.args.id live alone c.give.ensures.cells).block)
