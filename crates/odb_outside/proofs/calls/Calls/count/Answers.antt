use Rattle.std.proofs.Common.{arith}
use Rattle.odb_outside.proofs.Schedules.{no_fewer_faults, one_more_fault}
use Rattle.odb_outside.proofs.calls.Calls.count.Goals as goal

pub returns-clause-later : goal.returns-clause-later
returns-clause-later c =
    rw (← c.self.view_is, c.saturating_add-self-inside.ensures)
    (no_fewer_faults (record { failing = c.self.inside.failing.items; made = c.self.inside.made }) (omega arith))

pub returns-clause-rose : goal.returns-clause-rose
returns-clause-rose c =
    rw (← c.self.view_is, c.saturating_add-self-inside.ensures)
    (one_more_fault (record { failing = c.self.inside.failing.items; made = c.self.inside.made }) c.self.invariant)
