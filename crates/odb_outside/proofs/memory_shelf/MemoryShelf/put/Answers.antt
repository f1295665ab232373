use Rattle.std.proofs.Common.{◌∙◌, ap}
use Rattle.odb_outside.specs.Shelved.{Shelved}
use Rattle.odb_outside.proofs.Entering.{entered_set_ok, set_in_order}
use Rattle.odb_outside.proofs.memory_shelf.MemoryShelf.put.Goals as goal

pub invariant_of-self : goal.invariant_of-self
invariant_of-self c =
    let nothing = ap (λ (s : Shelved). s.hand) c.self.view_is ∙ c.requires in
    (c.self.invariant.0, rw nothing tt, set_in_order c.set.result c.as_bytes.result.now c.args.bytes.items c.self.inside.files c.set.new.self c.self.invariant.2 c.set.ensures.ok c.set.ensures.err)

pub returns-clause-ok : goal.returns-clause-ok
returns-clause-ok c =
    rw (← c.self.view_is)
    (entered_set_ok c.set.result c.args.name.now c.as_bytes.result.now c.args.bytes.items c.self.inside.files c.set.new.self c.self.invariant.2 c.as_bytes.ensures.value c.set.ensures.ok)
