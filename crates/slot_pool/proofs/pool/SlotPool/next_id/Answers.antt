use Rattle.std.proofs.Common.{◌≡◌, ◌∙◌, ap, sym, arith}
use Rattle.std.proofs.lemmas.List.{length-map}
use Rattle.slot_pool.specs.Stacking.{content, stack_table}
use Rattle.slot_pool.specs.Table.{Pool, next_id}
use Rattle.slot_pool.proofs.GoodTables.{next_id_within}
use Rattle.slot_pool.proofs.pool.SlotPool.next_id.Goals as goal

pub returns-clause-within : goal.returns-clause-within
returns-clause-within g c =
    let table = stack_table c.self.inside.slots.slots c.self.inside.free c.self.inside.top in
    let id : c.id_after.result ≡ next_id table c.args.k = c.id_after.ensures ∙ ap (λ (p : Pool _). next_id p.table c.args.k) (sym c.self.view_is) in
    rw (← c.self.view_is)
    (λ allowed. rw id (next_id_within table c.self.inside.cap c.args.k c.self.invariant.good (omega (arith, c.self.invariant.capped, length-map c.self.inside.slots.slots content)) allowed))

pub returns-clause-fits : goal.returns-clause-fits
returns-clause-fits g c =
    let table = stack_table c.self.inside.slots.slots c.self.inside.free c.self.inside.top in
    let id : c.id_after.result ≡ next_id table c.args.k = c.id_after.ensures ∙ ap (λ (p : Pool _). next_id p.table c.args.k) (sym c.self.view_is) in
    rw (← c.self.view_is)
    (λ allowed. let within = next_id_within table c.self.inside.cap c.args.k c.self.invariant.good (omega (arith, c.self.invariant.capped, length-map c.self.inside.slots.slots content)) allowed in omega (arith, id, within))
