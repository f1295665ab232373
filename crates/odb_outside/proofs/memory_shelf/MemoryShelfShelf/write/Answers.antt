use Rattle.std.proofs.Common.{◌∙◌, List, [], Some, ap, arith, refl, sym}
use Rattle.odb_outside.specs.Files.{File}
use Rattle.odb_outside.specs.Ordered.{with_file_in_order}
use Rattle.odb_outside.proofs.Entering.{entered-is, entered_more}
use Rattle.odb_outside.proofs.FileLaws.{held-after, no-more}
use Rattle.odb_outside.specs.Shelved.{Shelved}
use Rattle.odb_outside.proofs.memory_shelf.MemoryShelfShelf.write.Goals as goal

pub returns-then-fails_next-clause-writes : goal.returns-then-fails_next-clause-writes
returns-then-fails_next-clause-writes c =
    let writing = ap (λ (s : Shelved). s.hand) c.self.view_is ∙ c.requires in
    let name = c.self.inside.name.items in
    let held = rw writing at c.self.invariant.1 in
    rw (sym c.self.view_is, writing) record {
      n = 0;
      within = omega arith;
      told = rw (entered-is c.self.inside.files c.self.invariant.2) (ap (λ (files : List File). Some (record { files = files; name = name; left = [] })) (no-more name c.self.inside.files held));
    }

pub invariant_of-self-2 : goal.invariant_of-self-2
invariant_of-self-2 c =
    let writing = ap (λ (s : Shelved). s.hand) c.self.view_is ∙ c.requires in
    (c.self.invariant.0, rw writing (held-after c.deref.result.now c.self.inside.name.items _ c.self.inside.files c.append.new.self (sym c.deref.ensures.value) c.in_ok-append.ensures.ok), rw c.in_ok-append.ensures.ok (with_file_in_order c.deref.result.now _ c.self.inside.files c.self.invariant.2))

pub returns-clause-writes : goal.returns-clause-writes
returns-clause-writes c =
    let writing = ap (λ (s : Shelved). s.hand) c.self.view_is ∙ c.requires in
    let files = entered_more c.self.inside.name.items c.deref.result.now _ c.self.inside.files c.append.new.self c.self.invariant.2 c.deref.ensures.value c.in_ok-append.ensures.ok in
    rw (← c.self.view_is, writing, files) refl
