use Rattle.std.proofs.Common.{sym}
use Rattle.block_store.proofs.Places.{after_place, without_place}
use Rattle.block_store.proofs.ids.Ids.remove.Goals as goal

pub returns-clause-next : goal.returns-clause-next
returns-clause-next c =
    let h = rw (c.deref.ensures.value, c.self.view_is) at c.place_of-place.ensures in
    rw (c.first_from-next.ensures, c.deref-2.ensures.value, c.self.view_is) (sym (after_place c.args.member c.args.self.now c.place_of-place.result h))

pub returns-clause-list : goal.returns-clause-list
returns-clause-list c =
    let h = rw (c.deref.ensures.value, c.self.view_is) at c.place_of-place.ensures in
    rw (c.remove.ensures.items, c.self.view_is) (sym (without_place c.args.member c.args.self.now c.place_of-place.result h))
