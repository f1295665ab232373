use Rattle.slot_pool.proofs.Paging.{slots_in-more}
use Rattle.slot_pool.proofs.slots.Slots.add_page.Goals as goal

pub returns-clause-slots : goal.returns-clause-slots
returns-clause-slots g c =
    rw (← c.self.view_is, c.push_reserved.ensures.items, c.in_ok-page.ensures, c.in_ok-reserve.ensures.items) (slots_in-more c.self.inside.pages.items c.self.inside.len)
