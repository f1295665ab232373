-- The run is within its script, of which so much was taken.
use Rattle.std.proofs.Common.{◌≡◌, ◌-◌, ◌≤◌, IsTrue}
use Rattle.odb_outside.specs.Shelves.{files_told}
use Rattle.odb_outside.specs.declared.shelf.Hand.TheVariants as hand
use Rattle.odb_run.specs.Running.{IsBetween, Takes, Within}
use Rattle.odb_run.proofs.top.take_pieces.Given as goal

abbrev pub invariant-pieces : goal.invariant-pieces
invariant-pieces g l =
    let source = g.S.Source in
    let sink = g.K.Sink in
    let shelf = g.F.Shelf in
    record {
      script_ready : IsTrue (source.ready l.script);
      out_ready : IsTrue (sink.ready l.out);
      hand : shelf.hand l.shelf ≡ hand.Nothing;
      script_later : source.faults l.initial.script ≤ source.faults l.script;
      out_later : sink.faults l.initial.out ≤ sink.faults l.out;
      file_later : shelf.faults l.initial.shelf ≤ shelf.faults l.shelf;
      limit : l.taken ≤ 1073741824;
      takes : Takes (source.left l.initial.script) (source.left l.script) l.taken;
      between : IsBetween l.run;
      within : Within l.initial.run.state (source.left l.initial.script) (source.left l.script) (sink.held l.initial.out) (sink.held l.out) (files_told (shelf.told l.initial.shelf)) l.run (files_told (shelf.told l.shelf)) l.taken;
    }

abbrev pub decreases-pieces : goal.decreases-pieces
decreases-pieces g l = 1073741824 - l.taken
