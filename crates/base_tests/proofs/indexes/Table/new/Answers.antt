use Rattle.std.specs.FinMap.{empty}
use Rattle.name_index.specs.VecCells.{cell, chain_of, name_of}
use Rattle.name_index.proofs.Vectors.{is_index}
use Rattle.base_tests.proofs.indexes.Table.new.Goals as goal

pub invariant_of-result : goal.invariant_of-result
invariant_of-result c =
    let cells = c.args.cells.items in
    is_index cells c.new.result empty (c.new.ensures.stands (cell cells) (name_of cells) (chain_of cells))
