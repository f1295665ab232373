-- What is left is still to be written.
use Rattle.std.proofs.Common.{◌≡◌, ◌++◌}
use Rattle.std.specs.List.{flat_map}
use Rattle.block_store.specs.Live.{live_ids}
use Rattle.reports.specs.Reports.{object_line}
use Rattle.reports.proofs.lines.put_objects.Given as goal

abbrev pub invariant-loop-id : goal.invariant-loop-id
invariant-loop-id l = l.out.items ++ flat_map (object_line l.kind l.block.block) l.id-iterator ≡ l.fn.out.items ++ flat_map (object_line l.kind l.block.block) (live_ids l.kind l.block.block)
