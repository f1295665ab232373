use Rattle.block_links.proofs.ListMoves.{head_stands, linked_unless}
use Rattle.block_links.proofs.block.Block.walk.Goals as goal

pub walk-requires : goal.walk-requires
walk-requires c = head_stands c.self.inside.pools.cells c.self.invariant.0.stands c.args.list (linked_unless c.args.list c.in_default.not-InstTerms)
