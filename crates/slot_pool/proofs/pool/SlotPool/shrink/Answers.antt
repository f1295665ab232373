use Rattle.std.proofs.Common.{◌≡◌, [], refl}
use Rattle.slot_pool.specs.Stacking.{free_from}
use Rattle.slot_pool.proofs.Keeping.{none_free, table-dropped, IsKept-dropped}
use Rattle.slot_pool.proofs.pool.SlotPool.shrink.Goals as goal

pub invariant_of-self : goal.invariant_of-self
invariant_of-self g c =
    let free : free_from c.self.inside.slots.slots c.self.inside.free c.self.inside.top ≡ [] = rw (← c.self.view_is) at (c.requires.none_free refl) in
    rw c.pop.ensures.room (IsKept-dropped _ _ _ _ _ c.pop.new.self.slots c.pop.result (none_free _ _ _ 0 0 free) c.pop.ensures.slots c.self.invariant)

pub returns-clause-table : goal.returns-clause-table
returns-clause-table g c =
    let free : free_from c.self.inside.slots.slots c.self.inside.free c.self.inside.top ≡ [] = rw (← c.self.view_is) at (c.requires.none_free refl) in
    rw (← c.self.view_is) (table-dropped _ _ _ 0 0 c.args.id c.pop.new.self.slots c.pop.result (none_free _ _ _ 0 0 free) c.pop.ensures.slots)
