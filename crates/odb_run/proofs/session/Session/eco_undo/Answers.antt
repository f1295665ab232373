use Rattle.std.proofs.Common.{◌∙◌, Option, ap, sym}
use Rattle.odb_run.proofs.JournalLemmas.{undoes-in-part}
use Rattle.odb_run.specs.Journal.{eco_of}
use Rattle.odb_run.specs.Machine.{State}
use Rattle.odb_run.specs.Noted.{Noted}
use Rattle.odb_run.proofs.session.Session.eco_undo.Goals as goal

pub returns-then-is_err : goal.returns-then-is_err
returns-then-is_err g c =
    let d = c.self.inside.database in
    let state : Option Noted → State = λ j. record { database = d; eco = eco_of d j } in
    let done = c.undo_all.ensures in
    undoes-in-part c.args.self.now d c.undo_all.new.db c.in-Some.journal c.undo_all.new.journal (sym c.self.view_is ∙ ap state c.in-Some.is) done.same done.copy done.undoable done.front
