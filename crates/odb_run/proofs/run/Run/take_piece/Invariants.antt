-- The lines that ended were answered.
use Rattle.std.proofs.Common.{◌≡◌, ◌≤◌, IsTrue, length}
use Rattle.odb_outside.specs.Shelves.{files_told}
use Rattle.odb_outside.specs.declared.shelf.Hand.TheVariants as hand
use Rattle.odb_run.specs.Running.{Goes}
use Rattle.odb_run.proofs.run.Run.take_piece.Given as goal

abbrev pub invariant-lines : goal.invariant-lines
invariant-lines g l =
    let sink = g.K.Sink in
    let shelf = g.F.Shelf in
    record {
      ready : IsTrue (sink.ready l.out);
      out_later : sink.faults l.initial.out ≤ sink.faults l.out;
      hand : shelf.hand l.shelf ≡ hand.Nothing;
      file_later : shelf.faults l.initial.shelf ≤ shelf.faults l.shelf;
      goes : Goes (sink.held l.initial.out) (sink.held l.out) l.initial.self (files_told (shelf.told l.initial.shelf)) l.self (files_told (shelf.told l.shelf)) l.piece l.rest;
    }

abbrev pub decreases-lines : goal.decreases-lines
decreases-lines g l = length l.rest
