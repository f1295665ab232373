use Rattle.block_store.specs.Lists.{list_at}
use Rattle.block_links.specs.Standing.{block_of}
use Rattle.block_links.specs.Stores.{named}
use Rattle.block_links.proofs.block.Block.walk.Given as goal

abbrev pub ghost-walk : goal.ghost-walk
ghost-walk a = list_at (named a.list) (block_of a.self.now.cells)
