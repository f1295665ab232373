use Rattle.std.proofs.Common.{sym}
use Rattle.block_store.specs.Database.{Database}
use Rattle.odb_run.proofs.JournalLemmas.{more-undoable, more-undone}
use Rattle.odb_run.specs.declared.journal.Entry.{Entry}
use Rattle.odb_run.proofs.steps.do_noted.Goals as goal

pub returns-in-Ok-clause-copy : goal.returns-in-Ok-clause-copy
returns-in-Ok-clause-copy g c =
    let entry : Entry = record { step = c.args.step; memo = c.apply-memo.result } in
    let pushed = rw (c.in-Ok.ensures.copy, c.copy_to_note.ensures.entries) at c.push.ensures in
    let went = rw c.copy_to_note.ensures.block at c.apply-memo.ensures.back in
    rw (sym c.db.view_is) (more-undone c.args.journal.now.entries c.push.new.self.entries entry c.apply-memo.new.block.block _ pushed went)

pub returns-in-Ok-clause-undoable : goal.returns-in-Ok-clause-undoable
returns-in-Ok-clause-undoable g c =
    let d : Database = record { tech = c.db.inside.tech; library = c.db.inside.library; block = c.db.inside.block.block; cap = c.db.inside.block.cap } in
    let entry : Entry = record { step = c.args.step; memo = c.apply-memo.result } in
    let pushed = rw (c.in-Ok.ensures.copy, c.copy_to_note.ensures.entries) at c.push.ensures in
    let went = rw c.copy_to_note.ensures.block at c.apply-memo.ensures.back in
    rw (c.apply-memo.ensures.cap, c.copy_to_note.ensures.cap)
    (more-undoable d c.args.journal.now.entries c.push.new.self.entries entry c.apply-memo.new.block.block pushed went record {
      sound = c.db.invariant.block;
      can = rw (sym c.db.view_is) at c.requires.can;
      memo = rw c.copy_to_note.ensures.block at c.apply-memo.ensures.memo;
      after = rw c.copy_to_note.ensures.block at c.apply-memo.ensures.after;
    } (rw (sym c.db.view_is) at c.requires.undoable))
