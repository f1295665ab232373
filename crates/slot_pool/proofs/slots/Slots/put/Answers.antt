use Rattle.std.proofs.Common.{◌≡◌, ◌<◌, ◌/◌, ◌%◌, ◌∙◌, length, set, ap, arith}
use Rattle.slot_pool.specs.Paging.{page_at, slots_in}
use Rattle.slot_pool.proofs.Paging.{length-slots_in, place_within, page_read, slot_read, slots_in-put}
use Rattle.slot_pool.proofs.slots.Slots.put.Goals as goal

pub index_mut-requires : goal.index_mut-requires
index_mut-requires g c =
    let within : c.args.place < length (slots_in c.self.inside.pages.items c.self.inside.len) = rw (← c.self.view_is) at c.requires in
    let there = place_within c.self.inside.pages.items c.self.inside.len c.args.place c.self.invariant (omega (arith, within, length-slots_in c.self.inside.pages.items c.self.inside.len)) in
    omega (arith, there.0, c.self.inside.pages.ok.0)

pub put-requires : goal.put-requires
put-requires g c =
    let within : c.args.place < length (slots_in c.self.inside.pages.items c.self.inside.len) = rw (← c.self.view_is) at c.requires in
    let there = place_within c.self.inside.pages.items c.self.inside.len c.args.place c.self.invariant (omega (arith, within, length-slots_in c.self.inside.pages.items c.self.inside.len)) in
    let page = page_read c.self.inside.pages.items (c.args.place / 128) c.index_mut.result.now c.index_mut.ensures.value there.0 in
    omega (arith, there.1, ap length page)

pub returns-clause-was : goal.returns-clause-was
returns-clause-was g c =
    let inside : c.args.place < length (slots_in c.self.inside.pages.items c.self.inside.len) = rw (← c.self.view_is) at c.requires in
    let within : c.args.place < c.self.inside.len = omega (arith, inside, length-slots_in c.self.inside.pages.items c.self.inside.len) in
    let there = place_within c.self.inside.pages.items c.self.inside.len c.args.place c.self.invariant within in
    let page = page_read c.self.inside.pages.items (c.args.place / 128) c.index_mut.result.now c.index_mut.ensures.value there.0 in
    rw (← c.self.view_is)
    (slot_read c.self.inside.pages.items c.self.inside.len c.args.place c.index_mut.result.now c.put.result c.self.invariant within page c.put.ensures.was)

pub returns-clause-slots : goal.returns-clause-slots
returns-clause-slots g c =
    let inside : c.args.place < length (slots_in c.self.inside.pages.items c.self.inside.len) = rw (← c.self.view_is) at c.requires in
    let within : c.args.place < c.self.inside.len = omega (arith, inside, length-slots_in c.self.inside.pages.items c.self.inside.len) in
    let there = place_within c.self.inside.pages.items c.self.inside.len c.args.place c.self.invariant within in
    let page = page_read c.self.inside.pages.items (c.args.place / 128) c.index_mut.result.now c.index_mut.ensures.value there.0 in
    let now : c.put.new.self ≡ set (page_at c.self.inside.pages.items (c.args.place / 128)) (c.args.place % 128) c.args.slot = c.put.ensures.slots ∙ ap (λ p. set p (c.args.place % 128) c.args.slot) page in
    rw (← c.self.view_is)
    (ap (λ p. slots_in (set c.self.inside.pages.items (c.args.place / 128) p) c.self.inside.len) now ∙ slots_in-put c.self.inside.pages.items c.self.inside.len c.args.place c.args.slot c.self.invariant within)
