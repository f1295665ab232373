use Rattle.std.proofs.Common.{[], refl}
use Rattle.odb_outside.specs.Ordered.{with_file_in_order}
use Rattle.odb_outside.proofs.Entering.{entered_set}
use Rattle.odb_outside.proofs.FileLaws.{held-after}
use Rattle.odb_outside.proofs.memory_shelf.MemoryShelfShelf.create.Goals as goal

pub invariant_of-self-2 : goal.invariant_of-self-2
invariant_of-self-2 c =
    let copied = rw c.new-copy.ensures.items at c.in_ok-extend_from_slice.ensures.items in
    let set = rw c.new.ensures.items at c.in_ok-set.ensures.ok in
    (c.self.invariant.0, held-after c.as_bytes-bytes.result.now c.extend_from_slice.new.self.items [] c.self.inside.files c.set.new.self copied set, rw set (with_file_in_order c.as_bytes-bytes.result.now [] c.self.inside.files c.self.invariant.2))

pub returns-clause-creates : goal.returns-clause-creates
returns-clause-creates c =
    let copied = rw c.new-copy.ensures.items at c.in_ok-extend_from_slice.ensures.items in
    let set = rw c.new.ensures.items at c.in_ok-set.ensures.ok in
    let name = c.as_bytes-bytes.ensures.value in
    let files = entered_set c.args.name.now c.as_bytes-bytes.result.now [] c.self.inside.files c.set.new.self c.self.invariant.2 name set in
    rw (← c.self.view_is, files, copied, name) refl
