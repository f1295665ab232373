-- What is in the cells so far is what was taken off the slots.
use Rattle.std.proofs.Common.{◌≡◌}
use Rattle.std.specs.Prelude.{map}
use Rattle.std.specs.Option.{option_map}
use Rattle.named_pool.specs.declared.cells.NameCell.{NameCell}
use Rattle.named_pool.proofs.loading.cells_of.Given as goal

abbrev pub invariant-loop-slot : goal.invariant-loop-slot
invariant-loop-slot g l = map (option_map (λ (c : NameCell g.row.R.Denot). c.value)) l.cells.items ≡ l.yielded
