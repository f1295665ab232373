use Rattle.std.proofs.Common.{◌+◌, [], ◌∷◌, ◌++◌, ◌∙◌, List, ℕ, append_assoc, drop, subst, sym, take, arith}
use Rattle.std.proofs.Math.Seq.{drop-drop}
use Rattle.std.proofs.lemmas.Result.{err_from_is_err_and}
use Rattle.odb_outside.specs.Shelves.{files_told}
use Rattle.odb_run.proofs.Runs.{goes_front, goes_keep, goes_none, goes_write, on_written, rest-is}
use Rattle.odb_run.proofs.Stopping.{goes_stops, memory_stops, of_err, write_stops}
use Rattle.odb_run.specs.Running.{Goes, Stops}
use Rattle.odb_run.specs.declared.stop.Stop.{Stop}
use Rattle.odb_run.proofs.run.Run.take_piece.Goals as goal

pub lines-init : goal.lines-init
lines-init g c =
    let sink = g.K.Sink in
    let shelf = g.F.Shelf in
    record {
      ready = c.requires.ready;
      out_later = omega arith;
      hand = c.requires.hand;
      file_later = omega arith;
      goes = goes_none (sink.held c.args.out.now) c.args.self.now (files_told (shelf.told c.args.shelf.now)) c.args.piece.now;
    }

pub lines-preserved : goal.lines-preserved
lines-preserved g c =
    let held = g.K.Sink.held in
    let told = g.F.Shelf.told in
    let at = c.in-Some.at in
    let rest = c.lines.rest.now in
    let end = c.in-Some.ensures.end in
    let was = files_told (told c.args.shelf.now) in
    let is = files_told (told c.lines.shelf) in
    let after = files_told (told c.take_line.new.shelf) in
    let next = c.take_line.new.self in
    let line = subst (λ (l : List ℕ). Goes (held c.lines.out) (held c.take_line.new.out) c.lines.self is next after (l ++ 10 ∷ []) []) c.split_at.ensures.front c.in_ok-take_line.ensures.ok in
    let gone = goes_front (held c.args.out.now) (held c.lines.out) c.args.self.now c.lines.self was is c.args.piece.now rest c.lines.invariant.goes (held c.take_line.new.out) next after (take at rest ++ 10 ∷ []) (drop (at + 1) rest) (end.1 ∙ sym (append_assoc (take at rest) (10 ∷ []) (drop (at + 1) rest))) line in
    record {
      ready = c.in_ok-take_line.ensures.ready;
      out_later = omega (arith, c.lines.invariant.out_later, c.in_ok-take_line.ensures.causes.out_later);
      hand = c.in_ok-take_line.ensures.hand;
      file_later = omega (arith, c.lines.invariant.file_later, c.in_ok-take_line.ensures.causes.file_later);
      goes = rw (c.split_at.ensures.back, rest-is (drop at rest) 1, drop-drop 1 at rest) gone;
    }

pub returns-in_err-take_line-clause-err : goal.returns-in_err-take_line-clause-err
returns-in_err-take_line-clause-err g c =
    let held = g.K.Sink.held in
    let told = g.F.Shelf.told in
    let at = c.in-Some.at in
    let rest = c.lines.rest.now in
    let end = c.in-Some.ensures.end in
    let was = files_told (told c.args.shelf.now) in
    let is = files_told (told c.lines.shelf) in
    let before = held c.args.out.now in
    let mid = held c.lines.out in
    let now = held c.take_line.new.out in
    let reason = c.in_err-take_line.field-0.0 in
    let line = subst (λ (l : List ℕ). Stops reason mid now c.lines.self is (l ++ 10 ∷ [])) c.split_at.ensures.front c.in_err-take_line.ensures.err in
    let p = err_from_is_err_and c.from_residual.result c.from_residual.ensures.1 in
    let P = λ (r : Stop). Stops r before now c.args.self.now was c.args.piece.now in
    of_err P c.from_residual.result p.0 p.1 (subst P (sym p.2)
    (goes_stops before mid c.args.self.now c.lines.self was is c.args.piece.now rest c.lines.invariant.goes reason now (take at rest ++ 10 ∷ []) (drop (at + 1) rest) (end.1 ∙ sym (append_assoc (take at rest) (10 ∷ []) (drop (at + 1) rest))) line))

pub returns-in_err-write_out-clause-err : goal.returns-in_err-write_out-clause-err
returns-in_err-write_out-clause-err g c =
    let held = g.K.Sink.held in
    let told = g.F.Shelf.told in
    let was = files_told (told c.args.shelf.now) in
    let is = files_told (told c.lines.shelf) in
    let before = held c.args.out.now in
    let mid = held c.lines.out in
    let now = held c.write_out.new.out in
    let p = err_from_is_err_and c.from_residual-in_err-write_out.result c.from_residual-in_err-write_out.ensures.1 in
    let P = λ (r : Stop). Stops r before now c.args.self.now was c.args.piece.now in
    of_err P c.from_residual-in_err-write_out.result p.0 p.1 (subst P (sym p.2)
    (write_stops before mid c.args.self.now c.lines.self was is c.args.piece.now c.lines.rest.now c.lines.invariant.goes c.in_err-write_out.field-0.0 now c.in_err-write_out.ensures.err))

pub returns-in_err-keep-clause-err : goal.returns-in_err-keep-clause-err
returns-in_err-keep-clause-err g c =
    let held = g.K.Sink.held in
    let told = g.F.Shelf.told in
    let was = files_told (told c.args.shelf.now) in
    let is = files_told (told c.lines.shelf) in
    let before = held c.args.out.now in
    let mid = held c.lines.out in
    let now = held c.write_out.new.out in
    let wrote = goes_write before mid c.args.self.now c.lines.self was is c.args.piece.now c.lines.rest.now c.lines.invariant.goes now c.write_out.new.self
    (on_written mid now c.lines.self c.write_out.new.self c.in_ok-write_out.ensures.written c.in_ok-write_out.ensures.cleared)
    in
    let p = err_from_is_err_and c.from_residual-in_err-keep.result c.from_residual-in_err-keep.ensures.1 in
    let P = λ (r : Stop). Stops r before now c.args.self.now was c.args.piece.now in
    of_err P c.from_residual-in_err-keep.result p.0 p.1 (subst P (sym p.2) (memory_stops before now c.args.self.now c.write_out.new.self was is c.args.piece.now c.lines.rest.now wrote))

pub returns-clause-ok : goal.returns-clause-ok
returns-clause-ok g c =
    let held = g.K.Sink.held in
    let told = g.F.Shelf.told in
    let was = files_told (told c.args.shelf.now) in
    let is = files_told (told c.lines.shelf) in
    let before = held c.args.out.now in
    let mid = held c.lines.out in
    let now = held c.write_out.new.out in
    let wrote = goes_write before mid c.args.self.now c.lines.self was is c.args.piece.now c.lines.rest.now c.lines.invariant.goes now c.write_out.new.self
    (on_written mid now c.lines.self c.write_out.new.self c.in_ok-write_out.ensures.written c.in_ok-write_out.ensures.cleared)
    in
    goes_keep before now c.args.self.now c.write_out.new.self was is c.args.piece.now c.lines.rest.now wrote c.keep.new.self c.in_ok-keep.ensures.kept
