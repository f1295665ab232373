use Rattle.std.proofs.Common.{◌≡◌, ◌++◌, drop}
use Rattle.edits.specs.Plan.{parted_members}
use Rattle.edits.proofs.destroy.part_members.Given as goal

abbrev pub invariant-loop-number : goal.invariant-loop-number
invariant-loop-number l = l.steps.items ++ parted_members l.net (drop l.number-index l.number-items) ≡ l.initial.steps.items ++ parted_members l.net l.number-items
