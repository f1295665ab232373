use Rattle.block_links.proofs.Moves.{lawful_empty}
use Rattle.block_links.proofs.block.Block.new.Goals as goal

pub invariant_of-result : goal.invariant_of-result
invariant_of-result c = (lawful_empty c.in_ok-new.field-0.cells c.in_ok-new.ensures.cells, c.new-2.ensures.items)
