use Rattle.name_index.specs.VecCells.{held_names}
use Rattle.base_tests.proofs.indexes.Table.reserve.Given as goal

abbrev pub ghost-reserve : goal.ghost-reserve
ghost-reserve a = held_names a.cells.now a.self.now
