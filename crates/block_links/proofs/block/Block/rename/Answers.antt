use Rattle.block_links.proofs.FieldMoves.{become_renamed}
use Rattle.block_links.proofs.Seen.{name_cells}
use Rattle.std.proofs.Common.{◌∙◌}
use Rattle.block_links.proofs.block.Block.rename.Goals as goal

pub rename-requires-clause-free : goal.rename-requires-clause-free
rename-requires-clause-free g c = let free = rw (← c.self.view_is) at c.requires.free in λ other has. free other (name_cells c.self.inside.pools.cells c.args.kind other ∙ has)

pub invariant_of-self : goal.invariant_of-self
invariant_of-self g c = let live = rw (← c.self.view_is) at c.requires.live in let free = rw (← c.self.view_is) at c.requires.free in ((become_renamed c.self.inside.pools.cells _ c.self.invariant.0 c.args.kind c.args.id c.args.name live free c.rename.ensures.cells).lawful, c.self.invariant.1)

pub returns-clause-block : goal.returns-clause-block
returns-clause-block g c = let live = rw (← c.self.view_is) at c.requires.live in let free = rw (← c.self.view_is) at c.requires.free in rw (← c.self.view_is) ((become_renamed c.self.inside.pools.cells _ c.self.invariant.0 c.args.kind c.args.id c.args.name live free c.rename.ensures.cells).block)
