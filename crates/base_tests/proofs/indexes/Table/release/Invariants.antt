use Rattle.name_index.specs.VecCells.{held_names}
use Rattle.base_tests.proofs.indexes.Table.release.Given as goal

abbrev pub ghost-find : goal.ghost-find
ghost-find g a = held_names a.cells.now a.self.now

abbrev pub ghost-drop_name : goal.ghost-drop_name
ghost-drop_name g a = held_names a.cells.now a.self.now
