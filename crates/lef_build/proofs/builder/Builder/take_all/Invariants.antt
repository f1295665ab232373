use Rattle.std.proofs.Common.{◌≡◌, Ok, drop}
use Rattle.lef_build.specs.Building.{with_items}
use Rattle.lef_build.proofs.builder.Builder.take_all.Given as goal

abbrev pub invariant-loop-item : goal.invariant-loop-item
invariant-loop-item l = with_items (Ok l.self) (drop l.item-index l.items) ≡ with_items (Ok l.fn.self) l.items
