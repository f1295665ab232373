-- So many bytes of the file are written.
use Rattle.std.proofs.Common.{length, ◌-◌, ◌≡◌, ◌≤◌}
use Rattle.odb_outside.specs.declared.shelf.Hand.TheVariants as hand
use Rattle.shelf_files.proofs.FileSteps.{IsUnderWay}
use Rattle.shelf_files.proofs.writing.write_file.Given as goal

abbrev pub invariant-bytes : goal.invariant-bytes
invariant-bytes g l =
    let shelf = g.F.Shelf in
    record {
      within : l.done ≤ length l.bytes;
      hand : shelf.hand l.shelf ≡ hand.Writing;
      later : shelf.faults l.fn.shelf ≤ shelf.faults l.shelf;
      way : IsUnderWay (shelf.told l.fn.shelf) l.name l.bytes l.done (shelf.told l.shelf);
    }

abbrev pub decreases-bytes : goal.decreases-bytes
decreases-bytes g l = length l.bytes - l.done
