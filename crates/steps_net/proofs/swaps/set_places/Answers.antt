use Rattle.steps_net.proofs.SwapsPlaces.{live_place, next_placing}
use Rattle.steps_net.proofs.swaps.set_places.Goals as goal

pub set_index-requires : goal.set_index-requires
set_index-requires g c = live_place _ _ _ _ c.loop-index-test.true c.loop-index.invariant

pub loop-index-preserved : goal.loop-index-preserved
loop-index-preserved g c = next_placing _ _ _ _ _ c.loop-index-test.true c.loop-index.invariant c.set_index.ensures.block c.set_index.ensures.cap
