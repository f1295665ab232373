use Rattle.std.proofs.Common.{◌≤◌, ◌+◌, length}
use Rattle.steps_net.proofs.InstancesLoops.{IsTaking}
use Rattle.steps_net.proofs.instances.ungive_terms.Given as goal

abbrev pub invariant-loop-index : goal.invariant-loop-index
invariant-loop-index g l = IsTaking l.inst l.terminals l.index l.initial.block l.block × (length l.terminals ≤ l.index + length l.block.block.iterm.free)
