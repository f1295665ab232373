use Rattle.std.proofs.Common.{length, ap, ◌∙◌, arith}
use Rattle.steps_net.specs.Do.{fresh_iterm}
use Rattle.steps_net.proofs.InstancesLoops.{free_insts, memo_grown, slots_grown}
use Rattle.steps_net.proofs.InstancesTerms.{free_within}
use Rattle.steps_net.proofs.instances.new_inst.Goals as goal

pub take_terms-requires-clause-few : goal.take_terms-requires-clause-few
take_terms-requires-clause-few g c =
    let free = free_within (fresh_iterm 0 0) c.args.block.now.block.iterm c.requires.good in
    rw c.items.ensures (omega (arith, free, c.slots-before.ensures.bounds.high))

pub overflow_sub-result : goal.overflow_sub-result
overflow_sub-result g c =
    omega (arith, slots_grown c.args.id c.items.result.now c.args.block.now.block c.take_terms.new.block.block c.take_terms.ensures.block, c.slots-before.ensures.count, c.slots-after.ensures.count)

pub returns-clause-memo : goal.returns-clause-memo
returns-clause-memo g c =
    let grown = slots_grown c.args.id c.items.result.now c.args.block.now.block c.take_terms.new.block.block c.take_terms.ensures.block in
    memo_grown _ _ _ _
    (c.take-taken.ensures.grew ∙ free_insts _ c.args.block.now.block c.take_terms.new.block.block c.take_terms.ensures.block)
    (omega (arith, grown, c.slots-before.ensures.count, c.slots-after.ensures.count, ap length c.items.ensures))
