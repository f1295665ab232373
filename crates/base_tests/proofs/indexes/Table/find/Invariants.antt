use Rattle.name_index.specs.VecCells.{held_names}
use Rattle.base_tests.proofs.indexes.Table.find.Given as goal

abbrev pub ghost-find : goal.ghost-find
ghost-find a = held_names a.cells.now a.self.now
