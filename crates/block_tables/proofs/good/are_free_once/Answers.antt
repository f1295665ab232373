use mir.Val.{bool_byte}
use Rattle.std.proofs.Common.{◌≡◌, ◌∙◌, Bool, true, false, refl}
use Rattle.slot_pool.specs.Table.{once_if}
use Rattle.block_tables.proofs.GoodTables.{next_counted, none_counted}
use Rattle.block_tables.proofs.good.are_free_once.Goals as goal

byte_is : (b : Bool) → bool_byte b ≡ once_if b
byte_is true = refl
byte_is false = refl

pub loop-place-init : goal.loop-place-init
loop-place-init g c = none_counted c.args.slots.now c.args.counts.now c.if-counts-ne0.false

pub loop-place-preserved : goal.loop-place-preserved
loop-place-preserved g c =
    next_counted c.args.slots.now c.args.counts.now c.loop-place.place c.index-slots-place.result c.loop-place-test.true c.index-slots-place.is c.is_none.result c.is_none.ensures (c.if-counts-place.false ∙ c.from.ensures ∙ byte_is c.is_none.result) c.loop-place.invariant
