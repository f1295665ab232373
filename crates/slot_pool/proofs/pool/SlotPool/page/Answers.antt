use Rattle.std.proofs.Common.{◌∙◌, ◌+◌, ◌*◌, arith}
use Rattle.slot_pool.proofs.Pages.{slot_kept}
use Rattle.slot_pool.proofs.pool.SlotPool.page.Goals as goal

pub returns-clause-slots : goal.returns-clause-slots
returns-clause-slots g c =
    rw (← c.self.view_is)
    (λ i within. c.page.ensures.slots i within ∙ slot_kept c.self.inside.slots.slots c.self.inside.free c.self.inside.top c.self.inside.slots.room c.self.inside.cap (128 * c.args.k + i) c.self.invariant (omega (arith, within, c.page.ensures.count)))
