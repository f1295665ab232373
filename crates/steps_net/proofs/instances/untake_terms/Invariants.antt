use Rattle.steps_net.proofs.InstancesLoops.{IsUntaking}
use Rattle.steps_net.proofs.instances.untake_terms.Given as goal

abbrev pub invariant-loop-index : goal.invariant-loop-index
invariant-loop-index g l = IsUntaking l.reused l.terminals l.index l.initial.block l.block
