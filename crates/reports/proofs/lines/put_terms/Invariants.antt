-- What is left is still to be written.
use Rattle.std.proofs.Common.{◌≡◌, ◌++◌}
use Rattle.std.specs.List.{flat_map}
use Rattle.block_store.specs.Sound.{net_terms}
use Rattle.reports.specs.Reports.{term_line}
use Rattle.reports.proofs.lines.put_terms.Given as goal

abbrev pub invariant-loop-number : goal.invariant-loop-number
invariant-loop-number l = l.out.items ++ flat_map (term_line l.library l.block.block) l.number-iterator ≡ l.fn.out.items ++ flat_map (term_line l.library l.block.block) (net_terms l.block.block l.net)
