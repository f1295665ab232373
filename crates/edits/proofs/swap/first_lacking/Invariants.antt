use Rattle.std.proofs.Common.{◌≡◌, drop}
use Rattle.edits.specs.Plan.{first_lacking}
use Rattle.edits.proofs.swap.first_lacking.Given as goal

abbrev pub invariant-loop-terminal : goal.invariant-loop-terminal
invariant-loop-terminal l = first_lacking l.master (drop l.terminal-index l.terminals) ≡ first_lacking l.master l.terminals
