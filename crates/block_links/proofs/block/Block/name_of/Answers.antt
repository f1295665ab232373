use Rattle.block_links.proofs.Seen.{name_cells}
use Rattle.std.proofs.Common.{◌∙◌, sym}
use Rattle.block_links.proofs.block.Block.name_of.Goals as goal

pub returns : goal.returns
returns c = rw (← c.self.view_is) (c.name_of.ensures ∙ sym (name_cells c.self.inside.pools.cells c.args.kind c.args.id))
