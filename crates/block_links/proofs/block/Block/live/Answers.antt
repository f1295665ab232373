use Rattle.block_links.proofs.Seen.{live_cells}
use Rattle.std.proofs.Common.{◌∙◌, sym}
use Rattle.block_links.proofs.block.Block.live.Goals as goal

pub returns : goal.returns
returns c = rw (← c.self.view_is) (c.live.ensures ∙ sym (live_cells c.self.inside.pools.cells c.args.kind c.args.id))
