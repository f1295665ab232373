use Rattle.std.proofs.Common.{◌≡◌, ◌++◌, drop}
use Rattle.edits.specs.Plan.{parted_terms}
use Rattle.edits.proofs.destroy.part_terms.Given as goal

abbrev pub invariant-loop-iterm : goal.invariant-loop-iterm
invariant-loop-iterm l = l.steps.items ++ parted_terms l.block.block (drop l.iterm-index l.iterm-items) ≡ l.initial.steps.items ++ parted_terms l.block.block l.iterm-items
