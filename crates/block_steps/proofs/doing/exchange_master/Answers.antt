use Rattle.std.proofs.Common.{sym}
use Rattle.steps_net.proofs.SwapsMade.{can_swap_for}
use Rattle.block_steps.proofs.doing.exchange_master.Goals as goal

pub swap-requires-clause-can : goal.swap-requires-clause-can
swap-requires-clause-can g c =
    can_swap_for _ _ _ _ _ _ c.in-Some-Some.old.now c.in-Some-Some.new.now c.requires.sound c.requires.can (sym c.in-Some-Some.ensures) (sym c.in-Some-Some.ensures')
