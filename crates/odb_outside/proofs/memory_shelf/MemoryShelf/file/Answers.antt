use Rattle.odb_outside.proofs.Entering.{entered-is}
use Rattle.odb_outside.proofs.memory_shelf.MemoryShelf.file.Goals as goal

pub returns : goal.returns
returns c = rw (← c.self.view_is, entered-is c.self.inside.files c.self.invariant.2) (rw c.as_bytes.ensures.value at c.get.ensures)
