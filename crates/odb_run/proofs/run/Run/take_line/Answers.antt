use Rattle.std.proofs.Common.{[], ◌∷◌, ◌++◌, Err, ap, subst, sym}
use Rattle.std.proofs.lemmas.Result.{err_from_is_err_and}
use Rattle.odb_outside.specs.Shelves.{files_told}
use Rattle.odb_run.proofs.Runs.{goes_line, on_kept}
use Rattle.odb_run.proofs.Stopping.{line_stops, of_err, write_stops}
use Rattle.odb_run.specs.Running.{Stops}
use Rattle.odb_run.specs.declared.stop.Stop.{Stop}
use Rattle.odb_run.proofs.run.Run.take_line.Goals as goal

pub returns-in-Err-clause-err : goal.returns-in-Err-clause-err
returns-in-Err-clause-err g c =
    let held = g.K.Sink.held in
    let was = files_told (g.F.Shelf.told c.args.shelf.now) in
    line_stops c.in-Err.fault c.stop_at.result (held c.args.out.now) (held c.stop_at.new.out) c.args.self.now was c.end_line.new.self.unwritten c.args.bytes.now c.end_line.ensures.whole c.requires.line
    (λ e. c.in-Err.ensures.failed (ap Err e)) c.stop_at.ensures.stops

pub returns-in_err-write_much-clause-err : goal.returns-in_err-write_much-clause-err
returns-in_err-write_much-clause-err g c =
    let held = g.K.Sink.held in
    let was = files_told (g.F.Shelf.told c.args.shelf.now) in
    let after = files_told (g.F.Shelf.told c.end_line.new.shelf) in
    let line = c.args.bytes.now in
    let next = c.end_line.new.self in
    let before = held c.args.out.now in
    let now = held c.write_much.new.out in
    let goes = goes_line before before c.args.self.now next next was after line c.end_line.ensures.whole c.requires.line c.in_default.ensures.ok (on_kept before next) in
    let p = err_from_is_err_and c.from_residual.result c.from_residual.ensures.1 in
    let P = λ (reason : Stop). Stops reason before now c.args.self.now was (line ++ 10 ∷ []) in
    of_err P c.from_residual.result p.0 p.1 (subst P (sym p.2)
    (write_stops before before c.args.self.now next was after (line ++ 10 ∷ []) [] goes c.in_err-write_much.field-0.0 now c.in_err-write_much.ensures.err))

pub returns-clause-ok : goal.returns-clause-ok
returns-clause-ok g c =
    let held = g.K.Sink.held in
    let was = files_told (g.F.Shelf.told c.args.shelf.now) in
    let after = files_told (g.F.Shelf.told c.end_line.new.shelf) in
    goes_line (held c.args.out.now) (held c.write_much.new.out) c.args.self.now c.end_line.new.self c.write_much.new.self was after c.args.bytes.now c.end_line.ensures.whole c.requires.line c.in_default.ensures.ok c.in_ok-write_much.ensures.written
