use Rattle.std.proofs.Common.{◌≡◌, ◌<◌, ◌/◌, ◌%◌, ◌∙◌, IsSome, Some, get_or, refl, ap, sym, arith}
use Rattle.slot_pool.specs.declared.slot.Slot.TheVariants as slot
use Rattle.slot_pool.specs.Paging.{vacant, slot_at, slots_in}
use Rattle.slot_pool.specs.Stacking.{content}
use Rattle.slot_pool.proofs.Paging.{length-slots_in, get_or-slots_in, place_within, page_read, paged-put, record_within}
use Rattle.slot_pool.proofs.slots.Slots.record_mut.Goals as goal

pub index_mut-requires : goal.index_mut-requires
index_mut-requires g c =
    let some : IsSome (content (get_or (slots_in c.self.inside.pages.items c.self.inside.len) c.args.place (vacant {A = g.row.T.Denot}))) = rw (← c.self.view_is) at c.requires in
    let within : c.args.place < c.self.inside.len = omega (arith, record_within (slots_in c.self.inside.pages.items c.self.inside.len) c.args.place some, length-slots_in c.self.inside.pages.items c.self.inside.len) in
    let there = place_within c.self.inside.pages.items c.self.inside.len c.args.place c.self.invariant within in
    omega (arith, there.0, c.self.inside.pages.ok.0)

pub record_mut-requires : goal.record_mut-requires
record_mut-requires g c =
    let some : IsSome (content (get_or (slots_in c.self.inside.pages.items c.self.inside.len) c.args.place (vacant {A = g.row.T.Denot}))) = rw (← c.self.view_is) at c.requires in
    let within : c.args.place < c.self.inside.len = omega (arith, record_within (slots_in c.self.inside.pages.items c.self.inside.len) c.args.place some, length-slots_in c.self.inside.pages.items c.self.inside.len) in
    let there = place_within c.self.inside.pages.items c.self.inside.len c.args.place c.self.invariant within in
    let page = page_read c.self.inside.pages.items (c.args.place / 128) c.index_mut.result.now c.index_mut.ensures.value there.0 in
    let at = get_or-slots_in c.self.inside.pages.items c.self.inside.len c.args.place (vacant {A = g.row.T.Denot}) within in
    let found : IsSome (content (slot_at c.self.inside.pages.items c.args.place)) = rw at at some in
    rw page found

pub returns : goal.returns
returns g c =
    let some : IsSome (content (get_or (slots_in c.self.inside.pages.items c.self.inside.len) c.args.place (vacant {A = g.row.T.Denot}))) = rw (← c.self.view_is) at c.requires in
    let within : c.args.place < c.self.inside.len = omega (arith, record_within (slots_in c.self.inside.pages.items c.self.inside.len) c.args.place some, length-slots_in c.self.inside.pages.items c.self.inside.len) in
    let there = place_within c.self.inside.pages.items c.self.inside.len c.args.place c.self.invariant within in
    let page = page_read c.self.inside.pages.items (c.args.place / 128) c.index_mut.result.now c.index_mut.ensures.value there.0 in
    let at = get_or-slots_in c.self.inside.pages.items c.self.inside.len c.args.place (vacant {A = g.row.T.Denot}) within in
    let value : content (get_or (slots_in c.self.inside.pages.items c.self.inside.len) c.args.place (vacant {A = g.row.T.Denot})) ≡ Some c.record_mut.result.now =
    ap content at ∙ ap (λ p. content (get_or p (c.args.place % 128) (vacant {A = g.row.T.Denot}))) (sym page) ∙ c.record_mut.ensures.value in
    ((refl, λ w. rw (← c.self.view_is) (paged-put c.self.inside.pages.items c.self.inside.len c.args.place c.index_mut.result.now (slot.Live w) c.self.invariant within page)), record { writes_back = tt; value = rw (← c.self.view_is) value })
