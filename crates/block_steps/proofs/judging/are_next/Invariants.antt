use Rattle.std.proofs.Common.{◌≡◌, true, false}
use Rattle.steps_net.specs.Can.{AreNext}
use Rattle.block_steps.proofs.Following.{AreLeft, AreNextTo}
use Rattle.block_steps.proofs.judging.are_next.Given as goal

abbrev pub invariant-loop-id : goal.invariant-loop-id
invariant-loop-id l =
    (l.are_next ≡ true → AreLeft l.block.block.iterm l.terminals l.next l.id-index × AreNextTo l.block.block.iterm l.terminals l.id-index) ×
    (l.are_next ≡ false → AreNext l.terminals l.block.block.iterm → ⊥)
