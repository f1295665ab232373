use Rattle.steps_net.specs.Do.{fresh_iterm}
use Rattle.steps_net.proofs.InstancesLoops.{next_free, next_taking}
use Rattle.steps_net.proofs.instances.ungive_terms.Goals as goal

pub loop-index-preserved : goal.loop-index-preserved
loop-index-preserved g c =
    let was = c.loop-index.invariant in
    let block = rw c.fresh_iterm.ensures at c.ungive.ensures.block in
    (next_taking _ _ _ _ _ _ c.loop-index-test.true was.0 block c.ungive.ensures.cap, next_free _ _ (fresh_iterm c.args.inst c.loop-index.index) _ _ was.1 block)
