use Rattle.std.proofs.Common.{◌≡◌, ◌∙◌, true, refl}
use Rattle.slot_pool.specs.Stacking.{stack_table}
use Rattle.slot_pool.specs.Table.{is_live}
use Rattle.slot_pool.proofs.Keeping.{pool-replaced, record_there, IsKept-replaced}
use Rattle.slot_pool.proofs.pool.SlotPool.change.Goals as goal

pub invariant_of-self-lent : goal.invariant_of-self-lent
invariant_of-self-lent g c w =
    let live : is_live (stack_table c.self.inside.slots.slots c.self.inside.free c.self.inside.top) c.args.id ≡ true = rw (← c.self.view_is) at c.requires in
    IsKept-replaced c.self.inside.slots.slots c.self.inside.free c.self.inside.top c.self.inside.slots.room c.self.inside.cap c.args.id w c.self.invariant live

pub returns : goal.returns
returns g c =
    let live : is_live (stack_table c.self.inside.slots.slots c.self.inside.free c.self.inside.top) c.args.id ≡ true = rw (← c.self.view_is) at c.requires in
    let value = record_there c.self.inside.slots.slots c.self.inside.free c.self.inside.top c.args.id live ∙ c.record_mut.ensures.value in (
      (refl, λ w. rw (← c.self.view_is) (pool-replaced c.self.inside.slots.slots c.self.inside.free c.self.inside.top c.self.inside.slots.room c.self.inside.cap c.args.id w c.self.inside.moved c.saturating_add-self-inside.result c.self.invariant live c.saturating_add-self-inside.ensures)),
      record { writes_back = tt; value = rw (← c.self.view_is) value; moves = c.tick.ensures },
    )
