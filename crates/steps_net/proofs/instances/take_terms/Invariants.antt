use Rattle.steps_net.proofs.InstancesLoops.{HasRoom, IsTaking}
use Rattle.steps_net.proofs.instances.take_terms.Given as goal

abbrev pub invariant-loop-index : goal.invariant-loop-index
invariant-loop-index g l = IsTaking l.inst l.terminals l.index l.initial.block l.block × HasRoom l.terminals l.index l.initial.block.room l.block.room
