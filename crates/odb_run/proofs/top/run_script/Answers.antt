use Rattle.std.proofs.Common.{◌∙◌, Err, ap}
use Rattle.std.proofs.lemmas.Result.{err_from_is_err_and}
use Rattle.odb_outside.specs.Shelves.{files_told}
use Rattle.odb_run.specs.Machine.{start}
use Rattle.odb_run.proofs.Scripts.{runs_without}
use Rattle.odb_run.proofs.top.run_script.Goals as goal

pub returns-in_err-buffer-clause-runs : goal.returns-in_err-buffer-clause-runs
returns-in_err-buffer-clause-runs g c =
    let p = err_from_is_err_and c.from_residual.result c.from_residual.ensures.1 in
    runs_without (start c.args.cap) (g.S.Source.left c.args.script.now) (g.K.Sink.held c.args.out.now) (files_told (g.F.Shelf.told c.args.shelf.now)) c.from_residual.result (p.1 ∙ ap Err p.2)

pub returns-in_err-run-clause-runs : goal.returns-in_err-run-clause-runs
returns-in_err-run-clause-runs g c =
    let p = err_from_is_err_and c.from_residual-in_err-run.result c.from_residual-in_err-run.ensures.1 in
    runs_without (start c.args.cap) (g.S.Source.left c.args.script.now) (g.K.Sink.held c.args.out.now) (files_told (g.F.Shelf.told c.args.shelf.now)) c.from_residual-in_err-run.result (p.1 ∙ ap Err p.2)

pub returns-clause-runs : goal.returns-clause-runs
returns-clause-runs g c = rw c.in_ok-run.ensures at c.take_pieces-result.ensures.runs
