-- What is left is still to be written.
use Rattle.std.proofs.Common.{◌≡◌, ◌++◌, drop}
use Rattle.std.specs.List.{flat_map}
use Rattle.block_store.specs.Live.{live_count_in}
use Rattle.reports.specs.Texts.{value}
use Rattle.reports.proofs.lines.put_counts.Given as goal

abbrev pub invariant-loop-kind : goal.invariant-loop-kind
invariant-loop-kind l = l.out.items ++ flat_map (λ k. value (live_count_in k l.block.block)) (drop l.kind-index l.kinds) ≡ l.fn.out.items ++ flat_map (λ k. value (live_count_in k l.block.block)) l.kinds
