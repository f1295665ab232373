use Rattle.named_pool.specs.declared.cells.NameCells.{NameCells}
use Rattle.named_pool.specs.Cells.{cell, chain_of, name_of}
use Rattle.named_pool.proofs.Moving.{new_is}
use Rattle.named_pool.proofs.pool.NamedPool.new.Goals as goal

pub invariant_of-result : goal.invariant_of-result
invariant_of-result g c =
    let own = g.R.Named.own_name in
    let cells : NameCells g.row.R.Denot = record { pool = c.new.result } in
    new_is own cells c.new-2.result c.new.ensures.table (c.new-2.ensures.stands (cell cells) (name_of own cells) (chain_of cells))
