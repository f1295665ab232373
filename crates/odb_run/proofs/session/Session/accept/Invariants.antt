-- The first steps of the plan were done, and the others, the next one last, can be done from here on.
use Rattle.std.proofs.Common.{length, reverse}
use Rattle.edits.specs.Plan.{CanAll}
use Rattle.odb_run.proofs.Accepting.{IsUnderWay}
use Rattle.odb_run.proofs.session.Session.accept.Given as goal

abbrev pub invariant-loop-step : goal.invariant-loop-step
invariant-loop-step g l =
    record {
      can : CanAll l.self.database.tech l.self.database.library l.self.database.cap l.self.database.block (reverse l.steps.items);
      under_way : IsUnderWay l.fn.steps.items (reverse l.steps.items) l.fn.self l.self;
    }

abbrev pub decreases-loop-step : goal.decreases-loop-step
decreases-loop-step g l = length l.steps.items
