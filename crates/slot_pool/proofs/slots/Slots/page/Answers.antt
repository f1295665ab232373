use Rattle.std.proofs.Common.{◌<◌, ◌*◌, length, ap, arith}
use Rattle.slot_pool.specs.Paging.{slots_in}
use Rattle.slot_pool.proofs.Paging.{length-slots_in, length-page_at, page_read, slot_at-page}
use Rattle.slot_pool.proofs.slots.Slots.page.Goals as goal

pub index-requires : goal.index-requires
index-requires g c =
    let inside : 128 * c.args.k < length (slots_in c.self.inside.pages.items c.self.inside.len) = rw (← c.self.view_is) at c.requires in
    let some : 128 * c.args.k < c.self.inside.len = omega (arith, inside, length-slots_in c.self.inside.pages.items c.self.inside.len) in
    let there = length-page_at c.self.inside.pages.items c.self.inside.len c.args.k c.self.invariant some in
    omega (arith, there.0, c.self.inside.pages.ok.0)

pub returns-clause-count : goal.returns-clause-count
returns-clause-count g c =
    let inside : 128 * c.args.k < length (slots_in c.self.inside.pages.items c.self.inside.len) = rw (← c.self.view_is) at c.requires in
    let some : 128 * c.args.k < c.self.inside.len = omega (arith, inside, length-slots_in c.self.inside.pages.items c.self.inside.len) in
    let there = length-page_at c.self.inside.pages.items c.self.inside.len c.args.k c.self.invariant some in
    let page = page_read c.self.inside.pages.items c.args.k c.index.result.now c.index.ensures there.0 in
    rw (← c.self.view_is) (omega (arith, there.1, ap length page, length-slots_in c.self.inside.pages.items c.self.inside.len))

pub returns-clause-slots : goal.returns-clause-slots
returns-clause-slots g c =
    let inside : 128 * c.args.k < length (slots_in c.self.inside.pages.items c.self.inside.len) = rw (← c.self.view_is) at c.requires in
    let some : 128 * c.args.k < c.self.inside.len = omega (arith, inside, length-slots_in c.self.inside.pages.items c.self.inside.len) in
    let there = length-page_at c.self.inside.pages.items c.self.inside.len c.args.k c.self.invariant some in
    let page = page_read c.self.inside.pages.items c.args.k c.index.result.now c.index.ensures there.0 in
    rw (← c.self.view_is, page) (λ i within. slot_at-page c.self.inside.pages.items c.self.inside.len c.args.k i c.self.invariant within)
