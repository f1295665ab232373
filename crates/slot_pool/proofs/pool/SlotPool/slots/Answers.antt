use Rattle.std.proofs.Common.{arith}
use Rattle.std.proofs.lemmas.List.{length-map}
use Rattle.slot_pool.specs.Stacking.{content}
use Rattle.slot_pool.proofs.Stacking.{length-free_from}
use Rattle.slot_pool.proofs.pool.SlotPool.slots.Goals as goal

pub returns-clause-bounds : goal.returns-clause-bounds
returns-clause-bounds g c =
    let free = length-free_from c.self.inside.slots.slots c.self.inside.free c.self.inside.top in
    let long = length-map c.self.inside.slots.slots content in
    rw (← c.self.view_is) (record { low = omega (arith, free); high = omega (arith, free, long) })
