use Rattle.std.proofs.Common.{◌+◌, min, if◌then◌else◌, ap, sym, ◌∙◌}
use Rattle.named_pool.specs.Names.{is_named}
use Rattle.block_tables.proofs.Counts.{counted_more}
use Rattle.block_tables.proofs.names.holders_of.Goals as goal

pub loop-slot-preserved : goal.loop-slot-preserved
loop-slot-preserved g c =
    let slot = c.slot-item.result in
    λ name.
    let named = is_named g.T.Named.own_name name in
    c.in_ok-enter_slot.ensures.ok name
    ∙ ap (λ n. if named slot then min 2 (n + 1) else n) (c.loop-slot.invariant name)
    ∙ sym (counted_more named c.args.slots.now c.loop-slot.slot-index slot c.loop-slot-test.true c.slot-item.is)
