-- What is left is still to be written.
use Rattle.std.proofs.Common.{◌≡◌, ◌++◌}
use Rattle.std.specs.List.{flat_map}
use Rattle.block_store.specs.Block.{free_in}
use Rattle.reports.specs.Texts.{value}
use Rattle.reports.proofs.lines.put_free.Given as goal

abbrev pub invariant-loop-id : goal.invariant-loop-id
invariant-loop-id l = l.out.items ++ flat_map value l.id-iterator ≡ l.fn.out.items ++ flat_map value (free_in l.fn.kind l.block.block)
