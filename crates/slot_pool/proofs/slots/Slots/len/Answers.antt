use Rattle.std.proofs.Common.{sym, arith}
use Rattle.slot_pool.proofs.Paging.{length-slots_in}
use Rattle.slot_pool.proofs.slots.Slots.len.Goals as goal

pub returns-clause-count : goal.returns-clause-count
returns-clause-count g c = rw (← c.self.view_is) (sym (length-slots_in c.self.inside.pages.items c.self.inside.len))

pub returns-clause-within : goal.returns-clause-within
returns-clause-within g c = rw (← c.self.view_is) (omega (arith, length-slots_in c.self.inside.pages.items c.self.inside.len, c.self.invariant.enough))
