use Rattle.block_links.specs.Standing.{block_of}
use Rattle.std.proofs.Common.{ap}
use Rattle.block_links.proofs.block.Block.room.Goals as goal

pub returns-clause-block : goal.returns-clause-block
returns-clause-block c = rw (← c.self.view_is) (ap block_of c.room.ensures.cells)
