-- The index holds the names of the objects in the slots so far, and has room for those to come.
use Rattle.std.proofs.Common.{◌≡◌, ◌+◌, ◌≤◌}
use Rattle.name_index.specs.Index.{spare}
use Rattle.named_pool.specs.Held.{HoldsTo, held, objects}
use Rattle.named_pool.proofs.loading.hold_all.Given as goal

abbrev pub ghost-reserve : goal.ghost-reserve
ghost-reserve g a = held g.R.Named.own_name a.cells.now a.self.now

abbrev pub invariant-loop-place : goal.invariant-loop-place
invariant-loop-place g l = record {
  holds : HoldsTo g.R.Named.own_name l.cells l.index l.place;
  objects : objects l.cells ≡ objects l.fn.cells;
  cap : l.cells.pool.cap ≡ l.fn.cells.pool.cap;
  room : l.slots ≤ spare l.index + l.place;
}
