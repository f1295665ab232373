use Rattle.std.proofs.Common.{◌≡◌, ℕ, ◌<◌, get_or}
use Rattle.block_store.specs.Sound.{iterm_net}
use Rattle.block_steps.proofs.judging.are_unjoined.Given as goal

abbrev pub invariant-loop-id : goal.invariant-loop-id
invariant-loop-id l = (k : ℕ) → k < l.id-index → iterm_net l.block.block (get_or l.terminals k 0) ≡ 0
