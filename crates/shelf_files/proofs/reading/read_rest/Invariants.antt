-- What was read stands before what is left.
use Rattle.std.proofs.Common.{length, ◌-◌, ◌≡◌, ◌≤◌}
use Rattle.odb_outside.specs.Shelves.{KeepsFiles}
use Rattle.odb_outside.specs.declared.shelf.Hand.TheVariants as hand
use Rattle.shelf_files.proofs.FileSteps.{IsTaken}
use Rattle.shelf_files.proofs.reading.read_rest.Given as goal

abbrev pub invariant-pieces : goal.invariant-pieces
invariant-pieces g l =
    let shelf = g.F.Shelf in
    record {
      within : length l.bytes.items ≤ 4294967295;
      hand : shelf.hand l.shelf ≡ hand.Reading;
      later : shelf.faults l.fn.shelf ≤ shelf.faults l.shelf;
      files : KeepsFiles (shelf.told l.fn.shelf) (shelf.told l.shelf);
      taken : IsTaken (shelf.told l.fn.shelf) l.bytes.items (shelf.told l.shelf);
    }

abbrev pub decreases-pieces : goal.decreases-pieces
decreases-pieces g l = 4294967295 - length l.bytes.items
