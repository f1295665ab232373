use Rattle.name_index.specs.VecCells.{held_names}
use Rattle.base_tests.proofs.indexes.Table.hold.Given as goal

abbrev pub ghost-find : goal.ghost-find
ghost-find g a = held_names a.cells.now a.self.now

abbrev pub ghost-add : goal.ghost-add
ghost-add g a = held_names a.cells.now a.self.now
