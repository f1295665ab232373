use Rattle.odb_outside.proofs.Entering.{none_in_order}
use Rattle.odb_outside.proofs.memory_shelf.MemoryShelf.new.Goals as goal

pub invariant_of-result : goal.invariant_of-result
invariant_of-result c = (c.requires.piece, tt, none_in_order c.new.result c.new.ensures)
