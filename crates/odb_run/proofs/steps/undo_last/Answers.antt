use Rattle.std.proofs.Common.{sym}
use Rattle.block_store.specs.Database.{Database}
use Rattle.odb_run.proofs.JournalLemmas.{last-led, rest-undoable, rest-undone}
use Rattle.odb_run.proofs.steps.undo_last.Goals as goal

pub unapply-requires-clause-came : goal.unapply-requires-clause-came
unapply-requires-clause-came g c =
    let led = last-led c.args.db.now c.args.journal.now.entries c.pop.new.self.entries c.in-Some.entry c.in-Some.ensures.some c.requires in
    rw (c.room_back.ensures.block, c.room_back.ensures.cap) record {
      before = _;
      step = c.in-Some.entry.step;
      tag = sym c.tag-tag.ensures;
      came = rw (sym c.db.view_is) at led;
    }

pub invariant_of-db-2 : goal.invariant_of-db-2
invariant_of-db-2 g c =
    let led = rw (sym c.db.view_is) at (last-led c.args.db.now c.args.journal.now.entries c.pop.new.self.entries c.in-Some.entry c.in-Some.ensures.some c.requires) in
    let went = rw (c.tag-tag.ensures, c.room_back.ensures.block) at c.unapply.ensures.back in
    rw (went, c.unapply.ensures.cap, c.room_back.ensures.cap) record {
      tech = c.db.invariant.tech;
      library = c.db.invariant.library;
      block = led.sound;
      capped = c.db.invariant.capped;
    }

pub returns-clause-undoable : goal.returns-clause-undoable
returns-clause-undoable g c =
    let went = rw (c.tag-tag.ensures, c.room_back.ensures.block) at c.unapply.ensures.back in
    rw (c.unapply.ensures.cap, c.room_back.ensures.cap)
    (rest-undoable _ c.args.journal.now.entries c.pop.new.self.entries c.in-Some.entry c.in-Some.ensures.some (rw (sym c.db.view_is) at c.requires) c.unapply.new.block.block went)

pub returns-clause-copy : goal.returns-clause-copy
returns-clause-copy g c =
    let went = rw (c.tag-tag.ensures, c.room_back.ensures.block) at c.unapply.ensures.back in
    let d : Database = record { tech = c.db.inside.tech; library = c.db.inside.library; block = c.db.inside.block.block; cap = c.db.inside.block.cap } in
    rw (sym c.db.view_is) (rest-undone d c.args.journal.now.entries c.pop.new.self.entries c.in-Some.entry c.in-Some.ensures.some c.unapply.new.block.block went)
