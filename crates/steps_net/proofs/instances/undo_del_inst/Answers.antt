use Rattle.std.proofs.Common.{arith}
use Rattle.steps_net.specs.Do.{fresh_iterm}
use Rattle.steps_net.proofs.InstancesTerms.{free_within}
use Rattle.steps_net.proofs.instances.undo_del_inst.Goals as goal

pub ungive_terms-requires-clause-few : goal.ungive_terms-requires-clause-few
ungive_terms-requires-clause-few g c =
    let free = free_within (fresh_iterm 0 0) c.args.block.now.block.iterm c.requires.good in
    rw c.items.ensures (omega (arith, free, c.requires.terms, c.slots-slots.ensures.count))
