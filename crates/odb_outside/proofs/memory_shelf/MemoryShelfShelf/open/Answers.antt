use Rattle.std.proofs.Common.{refl, sym}
use Rattle.odb_outside.specs.Placing.{bytes_at}
use Rattle.odb_outside.proofs.Entering.{entered-is}
use Rattle.odb_outside.proofs.memory_shelf.MemoryShelfShelf.open.Goals as goal

pub returns-clause-opens : goal.returns-clause-opens
returns-clause-opens c =
    rw (sym c.self.view_is) record {
      bytes = bytes_at c.in-Some.at c.self.inside.files;
      found = rw (entered-is c.self.inside.files c.self.invariant.2) (rw c.as_bytes.ensures.value at c.in-Some.ensures.some.stored);
      told = refl;
    }

pub returns-in_default-clause-opens : goal.returns-in_default-clause-opens
returns-in_default-clause-opens c =
    rw (← c.self.view_is, entered-is c.self.inside.files c.self.invariant.2) (rw c.as_bytes.ensures.value at c.in_default.ensures.none)
