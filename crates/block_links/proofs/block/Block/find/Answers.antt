use Rattle.block_links.proofs.Seen.{find_cells}
use Rattle.std.proofs.Common.{◌∙◌, sym}
use Rattle.block_links.proofs.block.Block.find.Goals as goal

pub returns : goal.returns
returns c = rw (← c.self.view_is) (c.find.ensures ∙ sym (find_cells c.self.inside.pools.cells c.args.kind c.args.name.now))
