use Rattle.std.proofs.Common.{◌≡◌, ◌<◌, ◌*◌, ◌/◌, ◌^◌, ◌∙◌, [], ◌∷◌, ◌++◌, length, ap, arith}
use Rattle.slot_pool.specs.Paging.{page_at, slots_in}
use Rattle.slot_pool.proofs.Paging.{length-slots_in, next_page, page_read, IsPaged-push, slots_in-push}
use Rattle.slot_pool.proofs.slots.Slots.push.Goals as goal

pub index_mut-requires : goal.index_mut-requires
index_mut-requires g c =
    let full : length (slots_in c.self.inside.pages.items c.self.inside.len) < 128 * length c.self.inside.pages.items = rw (← c.self.view_is) at c.requires.room in
    let room : c.self.inside.len < 128 * length c.self.inside.pages.items = omega (arith, full, length-slots_in c.self.inside.pages.items c.self.inside.len) in
    let there = next_page c.self.inside.pages.items c.self.inside.len c.self.invariant room in
    omega (arith, there.0, c.self.inside.pages.ok.0)

pub push-requires : goal.push-requires
push-requires g c =
    let full : length (slots_in c.self.inside.pages.items c.self.inside.len) < 128 * length c.self.inside.pages.items = rw (← c.self.view_is) at c.requires.room in
    let room : c.self.inside.len < 128 * length c.self.inside.pages.items = omega (arith, full, length-slots_in c.self.inside.pages.items c.self.inside.len) in
    let there = next_page c.self.inside.pages.items c.self.inside.len c.self.invariant room in
    let page = page_read c.self.inside.pages.items (c.self.inside.len / 128) c.index_mut.result.now c.index_mut.ensures.value there.0 in
    omega (arith, there.1, there.2, ap length page)

pub overflow_add-self : goal.overflow_add-self
overflow_add-self g c =
    let fits : length (slots_in c.self.inside.pages.items c.self.inside.len) < 2 ^ 32 = rw (← c.self.view_is) at c.requires.fits in
    omega (arith, fits, length-slots_in c.self.inside.pages.items c.self.inside.len)

pub invariant_of-self : goal.invariant_of-self
invariant_of-self g c =
    let full : length (slots_in c.self.inside.pages.items c.self.inside.len) < 128 * length c.self.inside.pages.items = rw (← c.self.view_is) at c.requires.room in
    let room : c.self.inside.len < 128 * length c.self.inside.pages.items = omega (arith, full, length-slots_in c.self.inside.pages.items c.self.inside.len) in
    let there = next_page c.self.inside.pages.items c.self.inside.len c.self.invariant room in
    let page = page_read c.self.inside.pages.items (c.self.inside.len / 128) c.index_mut.result.now c.index_mut.ensures.value there.0 in
    let now : c.push.new.self ≡ page_at c.self.inside.pages.items (c.self.inside.len / 128) ++ c.args.slot ∷ [] = c.push.ensures ∙ ap (λ p. p ++ c.args.slot ∷ []) page in
    rw now (IsPaged-push c.self.inside.pages.items c.self.inside.len c.args.slot c.self.invariant room)

pub returns-clause-slots : goal.returns-clause-slots
returns-clause-slots g c =
    let full : length (slots_in c.self.inside.pages.items c.self.inside.len) < 128 * length c.self.inside.pages.items = rw (← c.self.view_is) at c.requires.room in
    let room : c.self.inside.len < 128 * length c.self.inside.pages.items = omega (arith, full, length-slots_in c.self.inside.pages.items c.self.inside.len) in
    let there = next_page c.self.inside.pages.items c.self.inside.len c.self.invariant room in
    let page = page_read c.self.inside.pages.items (c.self.inside.len / 128) c.index_mut.result.now c.index_mut.ensures.value there.0 in
    let now : c.push.new.self ≡ page_at c.self.inside.pages.items (c.self.inside.len / 128) ++ c.args.slot ∷ [] = c.push.ensures ∙ ap (λ p. p ++ c.args.slot ∷ []) page in
    rw (← c.self.view_is, now) (slots_in-push c.self.inside.pages.items c.self.inside.len c.args.slot c.self.invariant room)
