use Rattle.std.proofs.Common.{◌≡◌, ◌∙◌, length, arith}
use Rattle.std.proofs.lemmas.List.{get_or_default, get_or_past}
use Rattle.slot_pool.proofs.Stacking.{length-free_from}
use Rattle.slot_pool.proofs.pool.SlotPool.id_after.Goals as goal

pub free_id-requires : goal.free_id-requires
free_id-requires g c = rw (← c.self.view_is) (omega (arith, c.if-k-self.true, length-free_from c.self.inside.slots.slots c.self.inside.free c.self.inside.top))

pub returns-then-k-self : goal.returns-then-k-self
returns-then-k-self g c =
    let long : length c.args.self.now.table.free ≡ c.self.inside.free = rw (← c.self.view_is) (length-free_from c.self.inside.slots.slots c.self.inside.free c.self.inside.top) in
    c.free_id.ensures ∙ get_or_default c.args.self.now.table.free c.args.k 0 _ (omega (arith, long, c.if-k-self.true))

pub returns-else-k-self : goal.returns-else-k-self
returns-else-k-self g c =
    let long : length c.args.self.now.table.free ≡ c.self.inside.free = rw (← c.self.view_is) (length-free_from c.self.inside.slots.slots c.self.inside.free c.self.inside.top) in
    rw (get_or_past c.args.self.now.table.free c.args.k _ (omega (arith, long, c.if-k-self.false))) (omega (arith, long, c.slots.ensures.count))
