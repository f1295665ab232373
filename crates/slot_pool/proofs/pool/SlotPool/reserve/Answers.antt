use Rattle.std.proofs.Common.{rules, refl, arith}
use Rattle.std.proofs.lemmas.List.{length-map}
use Rattle.slot_pool.specs.Stacking.{content}
use Rattle.slot_pool.proofs.Stacking.{length-free_from}
use Rattle.slot_pool.proofs.pool.SlotPool.reserve.Goals as goal

pub returns-then-free-self-clause-full : goal.returns-then-free-self-clause-full
returns-then-free-self-clause-full g c =
    let free = length-free_from c.self.inside.slots.slots c.self.inside.free c.self.inside.top in
    let long = length-map c.self.inside.slots.slots content in
    (λ _. rw (← c.self.view_is) (omega (arith, free, long, c.len-slots.ensures.count, c.if-free-self.true)), λ _. refl)

pub returns-in_err-reserve-clause-full : goal.returns-in_err-reserve-clause-full
returns-in_err-reserve-clause-full g c =
    let free = length-free_from c.self.inside.slots.slots c.self.inside.free c.self.inside.top in
    let long = length-map c.self.inside.slots.slots content in
    rw (← c.self.view_is) (search (rules, free, long))

pub returns-clause-full : goal.returns-clause-full
returns-clause-full g c =
    let free = length-free_from c.self.inside.slots.slots c.self.inside.free c.self.inside.top in
    let long = length-map c.self.inside.slots.slots content in
    rw (← c.self.view_is) (λ is. cc, λ less. absurd (omega (arith, free, long, less, c.len-slots.ensures.count, c.if-free-self.false)))
