use Rattle.steps_net.proofs.SwapsPlaces.{IsPlacing}
use Rattle.steps_net.proofs.swaps.set_places.Given as goal

abbrev pub invariant-loop-index : goal.invariant-loop-index
invariant-loop-index g l = IsPlacing l.terminals l.index l.initial.block l.block
