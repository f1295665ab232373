use Rattle.std.proofs.Common.{}
use Rattle.steps_net.proofs.InstancesLoops.{next_has_room, next_taking}
use Rattle.steps_net.proofs.instances.take_terms.Goals as goal

pub loop-index-preserved : goal.loop-index-preserved
loop-index-preserved g c =
    let was = c.loop-index.invariant in
    let block = rw c.fresh_iterm.ensures at c.take.ensures.block in
    let room = rw c.fresh_iterm.ensures at c.take.ensures.room in
    let others = rw c.fresh_iterm.ensures at c.take.ensures.others in
    (next_taking _ _ _ _ _ _ c.loop-index-test.true was.0 block c.take.ensures.cap, next_has_room _ _ _ _ _ was.1 room others)
