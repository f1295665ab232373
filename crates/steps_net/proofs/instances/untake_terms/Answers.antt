use Rattle.steps_net.proofs.InstancesLoops.{alone_at, can_untake_at, next_untaking}
use Rattle.steps_net.proofs.instances.untake_terms.Goals as goal

pub untake-requires-clause-can : goal.untake-requires-clause-can
untake-requires-clause-can g c = can_untake_at _ _ _ _ _ c.loop-index-test.true c.loop-index.auto.index c.loop-index.invariant.done c.requires.can

pub untake-requires-clause-alone : goal.untake-requires-clause-alone
untake-requires-clause-alone g c = alone_at _ _ _ c.args.block.now.block _ c.loop-index-test.true c.loop-index.auto.index c.loop-index.invariant.done c.requires.apart

pub loop-index-preserved : goal.loop-index-preserved
loop-index-preserved g c = next_untaking _ _ _ _ _ _ c.loop-index-test.true c.loop-index.auto.index c.loop-index.invariant c.untake.ensures.block c.untake.ensures.cap
