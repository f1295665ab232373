-- What is left of the journal leads back to the same block, and is the front of it.
use Rattle.std.proofs.Common.{◌≡◌, length}
use Rattle.odb_run.specs.Journal.{IsFront, IsUndoable, undone}
use Rattle.odb_run.proofs.steps.undo_all.Given as goal

abbrev pub invariant-steps : goal.invariant-steps
invariant-steps g l =
    record {
      undoable : IsUndoable l.db l.journal.entries l.db.block;
      copy : undone l.journal.entries l.db.block ≡ undone l.initial.journal.entries l.initial.db.block;
      same : l.db ≡ record l.initial.db { block = l.db.block };
      front : IsFront l.journal.entries l.initial.journal.entries;
    }

abbrev pub decreases-steps : goal.decreases-steps
decreases-steps g l = length l.journal.entries
