use Rattle.std.proofs.Common.{◌≡◌, ◌+◌, ◌-◌, ◌<◌, ◌∙◌, length, arith}
use Rattle.slot_pool.proofs.Stacked.{IsStacked, next_place, next_read, stacked_more}
use Rattle.slot_pool.proofs.pool.stack.Goals as goal

pub overflow_sub-id : goal.overflow_sub-id
overflow_sub-id g c =
    let one : c.loop-index.index - 1 + 1 ≡ c.loop-index.index = omega (arith, c.loop-index-test.true) in
    let now : IsStacked c.args.free.now (c.loop-index.index - 1 + 1) c.args.slots.now.slots c.loop-index.slots.slots c.loop-index.top = rw one c.loop-index.invariant.0 in
    let within : c.loop-index.index - 1 < length c.args.free.now = omega (arith, c.loop-index-test.true, c.loop-index.auto.index) in
    (next_place c.args.free.now c.args.slots.now.slots c.loop-index.slots.slots c.loop-index.top (c.loop-index.index - 1) c.requires now within).0

pub put-requires : goal.put-requires
put-requires g c =
    let one : c.loop-index.index - 1 + 1 ≡ c.loop-index.index = omega (arith, c.loop-index-test.true) in
    let now : IsStacked c.args.free.now (c.loop-index.index - 1 + 1) c.args.slots.now.slots c.loop-index.slots.slots c.loop-index.top = rw one c.loop-index.invariant.0 in
    let within : c.loop-index.index - 1 < length c.args.free.now = omega (arith, c.loop-index-test.true, c.loop-index.auto.index) in
    let place = next_place c.args.free.now c.args.slots.now.slots c.loop-index.slots.slots c.loop-index.top (c.loop-index.index - 1) c.requires now within in
    omega (arith, place.0, place.1)

pub below_of-requires : goal.below_of-requires
below_of-requires g c =
    let one : c.loop-index.index - 1 + 1 ≡ c.loop-index.index = omega (arith, c.loop-index-test.true) in
    let now : IsStacked c.args.free.now (c.loop-index.index - 1 + 1) c.args.slots.now.slots c.loop-index.slots.slots c.loop-index.top = rw one c.loop-index.invariant.0 in
    let within : c.loop-index.index - 1 < length c.args.free.now = omega (arith, c.loop-index-test.true, c.loop-index.auto.index) in
    next_read c.args.free.now c.args.slots.now.slots c.loop-index.slots.slots c.loop-index.top (c.loop-index.index - 1) c.requires now within c.put.result c.put.ensures.was

pub loop-index-preserved : goal.loop-index-preserved
loop-index-preserved g c =
    let one : c.loop-index.index - 1 + 1 ≡ c.loop-index.index = omega (arith, c.loop-index-test.true) in
    let now : IsStacked c.args.free.now (c.loop-index.index - 1 + 1) c.args.slots.now.slots c.loop-index.slots.slots c.loop-index.top = rw one c.loop-index.invariant.0 in
    let within : c.loop-index.index - 1 < length c.args.free.now = omega (arith, c.loop-index-test.true, c.loop-index.auto.index) in
    (rw c.put.ensures.slots (stacked_more c.args.free.now c.args.slots.now.slots c.loop-index.slots.slots c.loop-index.top (c.loop-index.index - 1) c.requires now within), c.put.ensures.room ∙ c.loop-index.invariant.1)
