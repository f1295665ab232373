use Rattle.steps_net.proofs.InstancesLoops.{alone_at, live_at}
use Rattle.steps_net.proofs.instances.give_terms.Goals as goal

pub give-requires-clause-live : goal.give-requires-clause-live
give-requires-clause-live g c = live_at _ _ _ _ c.loop-index-test.true c.loop-index.auto.index c.loop-index.invariant.done c.requires.can

pub give-requires-clause-alone : goal.give-requires-clause-alone
give-requires-clause-alone g c = alone_at _ _ _ c.args.block.now.block _ c.loop-index-test.true c.loop-index.auto.index c.loop-index.invariant.done c.requires.apart
