use Rattle.std.proofs.Common.{◌<◌, ◌/◌, ◌%◌, ◌∙◌, length, ap, refl, arith}
use Rattle.std.proofs.lemmas.Option.{slice_get_read}
use Rattle.slot_pool.specs.Paging.{slots_in}
use Rattle.slot_pool.proofs.Paging.{length-slots_in, place_within, page_read, slot_read}
use Rattle.slot_pool.proofs.slots.Slots.at.Goals as goal

pub index-requires : goal.index-requires
index-requires g c =
    let within : c.args.place < length (slots_in c.self.inside.pages.items c.self.inside.len) = rw (← c.self.view_is) at c.requires in
    let there = place_within c.self.inside.pages.items c.self.inside.len c.args.place c.self.invariant (omega (arith, within, length-slots_in c.self.inside.pages.items c.self.inside.len)) in
    omega (arith, there.0, c.self.inside.pages.ok.0)

pub bounds-slots-place : goal.bounds-slots-place
bounds-slots-place g c =
    let within : c.args.place < length (slots_in c.self.inside.pages.items c.self.inside.len) = rw (← c.self.view_is) at c.requires in
    let there = place_within c.self.inside.pages.items c.self.inside.len c.args.place c.self.invariant (omega (arith, within, length-slots_in c.self.inside.pages.items c.self.inside.len)) in
    let page = page_read c.self.inside.pages.items (c.args.place / 128) c.index.result.now c.index.ensures there.0 in
    omega (arith, there.1, ap length page, ap length c.slots.ensures)

pub offset_bounds-slots-place : goal.offset_bounds-slots-place
offset_bounds-slots-place g c =
    let within : c.args.place < length (slots_in c.self.inside.pages.items c.self.inside.len) = rw (← c.self.view_is) at c.requires in
    let there = place_within c.self.inside.pages.items c.self.inside.len c.args.place c.self.invariant (omega (arith, within, length-slots_in c.self.inside.pages.items c.self.inside.len)) in
    let page = page_read c.self.inside.pages.items (c.args.place / 128) c.index.result.now c.index.ensures there.0 in
    omega (arith, there.1, ap length page, ap length c.slots.ensures)

pub returns : goal.returns
returns g c =
    let inside : c.args.place < length (slots_in c.self.inside.pages.items c.self.inside.len) = rw (← c.self.view_is) at c.requires in
    let within : c.args.place < c.self.inside.len = omega (arith, inside, length-slots_in c.self.inside.pages.items c.self.inside.len) in
    let there = place_within c.self.inside.pages.items c.self.inside.len c.args.place c.self.invariant within in
    let page = page_read c.self.inside.pages.items (c.args.place / 128) c.index.result.now c.index.ensures there.0 in
    rw (← c.self.view_is)
    (slot_read c.self.inside.pages.items c.self.inside.len c.args.place c.slots.result.now c.index-slots-place.result c.self.invariant within (c.slots.ensures ∙ page)
    (slice_get_read c.slots.result.now (length c.slots.result.now) (c.args.place % 128) c.index-slots-place.result refl (omega (arith, there.1, ap length page, ap length c.slots.ensures)) c.index-slots-place.is))
