use Rattle.std.proofs.Common.{◌≡◌, ◌<◌, ◌-◌, ◌+◌, ◌/◌, ◌∙◌, length, ap, sym, arith, subst}
use Rattle.slot_pool.specs.Paging.{slots_in, IsPaged}
use Rattle.slot_pool.proofs.Paging.{length-slots_in, place_within, page_read, slots_in-pop}
use Rattle.slot_pool.proofs.slots.Slots.pop.Goals as goal

pub returns-clause-slots : goal.returns-clause-slots
returns-clause-slots g c =
    let some : 0 < length (slots_in c.self.inside.pages.items c.self.inside.len) = rw (← c.self.view_is) at c.requires in
    let one : c.self.inside.len - 1 + 1 ≡ c.self.inside.len = omega (arith, some, length-slots_in c.self.inside.pages.items c.self.inside.len) in
    let paged : IsPaged c.self.inside.pages.items (c.self.inside.len - 1 + 1) = subst (IsPaged c.self.inside.pages.items) (sym one) c.self.invariant in
    let there = place_within c.self.inside.pages.items c.self.inside.len (c.self.inside.len - 1) c.self.invariant (omega (arith, one)) in
    let page = page_read c.self.inside.pages.items ((c.self.inside.len - 1) / 128) c.index_mut.result.now c.index_mut.ensures.value there.0 in
    rw (← c.self.view_is) (ap (slots_in c.self.inside.pages.items) (sym one) ∙ slots_in-pop c.self.inside.pages.items (c.self.inside.len - 1) c.pop.new.self c.pop.result paged (sym page ∙ c.pop.ensures))
