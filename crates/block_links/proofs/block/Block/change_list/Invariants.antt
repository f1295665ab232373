use Rattle.block_store.specs.Lists.{list_at}
use Rattle.block_links.specs.Standing.{block_of}
use Rattle.block_links.specs.Stores.{named}
use Rattle.block_links.proofs.block.Block.change_list.Given as goal

-- the list before the change
abbrev pub ghost-change_links : goal.ghost-change_links
ghost-change_links g a = list_at (named a.list) (block_of a.self.now.cells)
