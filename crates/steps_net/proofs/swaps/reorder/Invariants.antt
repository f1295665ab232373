use Rattle.std.proofs.Common.{◌≡◌, map, take, vec_capacity}
use Rattle.steps_net.proofs.SwapsOrder.{taken_for}
use Rattle.steps_net.proofs.swaps.reorder.Given as goal

abbrev pub invariant-loop-term : goal.invariant-loop-term
invariant-loop-term l = (l.order.items ≡ map (taken_for l.old l.new l.terminals) (take l.term-index l.term-items)) × (vec_capacity l.order ≡ vec_capacity l.initial.order)
