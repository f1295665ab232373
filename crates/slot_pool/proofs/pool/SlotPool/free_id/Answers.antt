use Rattle.std.proofs.Common.{◌≡◌, ◌+◌, ◌<◌, ◌∙◌, suc, length, ap, sym, arith}
use Rattle.slot_pool.specs.Stacking.{below_at, free_from, under}
use Rattle.slot_pool.proofs.Stacking.{get_or-free_from, length-free_from, under-more}
use Rattle.slot_pool.proofs.pool.SlotPool.free_id.Goals as goal

pub loop-preserved : goal.loop-preserved
loop-preserved g c =
    let one : suc c.loop.counter ≡ c.loop.counter + 1 = omega arith in
    c.below-id.ensures ∙ ap (below_at c.self.inside.slots.slots) c.loop.invariant ∙ sym (under-more c.self.inside.slots.slots c.loop.counter c.self.inside.top) ∙ ap (λ k. under c.self.inside.slots.slots k c.self.inside.top) one

pub returns : goal.returns
returns g c =
    let held : c.args.k < length (free_from c.self.inside.slots.slots c.self.inside.free c.self.inside.top) = rw (← c.self.view_is) at c.requires in
    let end : c.loop.counter ≡ c.args.k = omega (arith, c.loop-test.false, c.loop.auto.counter-end) in
    let at = get_or-free_from c.self.inside.slots.slots c.self.inside.free c.self.inside.top c.args.k 0 (omega (arith, held, length-free_from c.self.inside.slots.slots c.self.inside.free c.self.inside.top)) in
    rw (← c.self.view_is) (c.loop.invariant ∙ ap (λ k. under c.self.inside.slots.slots k c.self.inside.top) end ∙ sym at)
