-- What is listed and the rest of the chain are all that is to be listed.
use Rattle.std.proofs.Common.{◌≡◌, ◌-◌, ◌++◌}
use Rattle.name_index.specs.Chain.{AreCells, ids_from}
use Rattle.name_index.proofs.chain.list_chain.Given as goal

abbrev pub invariant-loop : goal.invariant-loop
invariant-loop g l =
    let cells = g.C.ChainCells in
    let rest = ids_from (cells.chain_of l.cells) (l.most - l.counter) l.id in
    record {
      reached : AreCells (cells.cell l.cells) rest;
      listed : l.ids.items ++ rest ≡ l.fn.ids.items ++ ids_from (cells.chain_of l.cells) l.most l.first;
    }
