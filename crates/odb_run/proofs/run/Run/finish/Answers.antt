use Rattle.std.proofs.Common.{◌∙◌, Err, ap, subst, sym}
use Rattle.std.proofs.lemmas.Result.{err_from_is_err_and}
use Rattle.odb_outside.specs.Shelves.{files_told}
use Rattle.odb_run.proofs.Runs.{last_finished, told_map}
use Rattle.odb_run.proofs.Stopping.{end_stops, last_line_stops, of_err}
use Rattle.odb_run.specs.Running.{Running, StopsLast}
use Rattle.odb_run.specs.declared.stop.Stop.{Stop}
use Rattle.odb_run.proofs.run.Run.finish.Goals as goal

pub returns-in-Err-clause-err : goal.returns-in-Err-clause-err
returns-in-Err-clause-err g c =
    let held = g.K.Sink.held in
    let was = files_told (g.F.Shelf.told c.args.shelf.now) in
    last_line_stops c.in-Err.fault c.stop_at.result (held c.args.out.now) (held c.stop_at.new.out) c.args.self.now was c.end_last_line.new.self.unwritten
    (λ e. c.in-Err.ensures.failed (ap Err e)) (λ e. c.in-Err.ensures.last (ap Err e)) c.stop_at.ensures.stops

pub returns-in_err-write_out-clause-err : goal.returns-in_err-write_out-clause-err
returns-in_err-write_out-clause-err g c =
    let held = g.K.Sink.held in
    let was = files_told (g.F.Shelf.told c.args.shelf.now) in
    let left = files_told (g.F.Shelf.told c.end_last_line.new.shelf) in
    let p = err_from_is_err_and c.from_residual.result c.from_residual.ensures.1 in
    let P = λ (reason : Stop). StopsLast reason (held c.args.out.now) (held c.write_out.new.out) c.args.self.now was in
    of_err P c.from_residual.result p.0 p.1 (subst P (sym p.2)
    (end_stops c.in_err-write_out.field-0.0 (held c.args.out.now) (held c.write_out.new.out) c.args.self.now c.end_last_line.new.self was left c.in_default.ensures.ok c.in_err-write_out.ensures.err))

pub returns-clause-ok : goal.returns-clause-ok
returns-clause-ok g c =
    let was = files_told (g.F.Shelf.told c.args.shelf.now) in
    let left = files_told (g.F.Shelf.told c.end_last_line.new.shelf) in
    let same = ap (λ (r : Running). r.refused) (c.self.view_is ∙ c.in_ok-write_out.ensures.cleared) in
    told_map was left (λ x y last. last_finished (g.K.Sink.held c.args.out.now) (g.K.Sink.held c.write_out.new.out) c.args.self.now c.end_last_line.new.self x y _ c.in_ok-write_out.ensures.written same last) c.in_default.ensures.ok
