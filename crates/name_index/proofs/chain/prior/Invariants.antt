-- What stands before the object in the rest of the chain is what stands before it in all of it.
use Rattle.std.proofs.Common.{◌≡◌, ◌-◌}
use Rattle.name_index.specs.Chain.{AreCells, ids_from, prior_in}
use Rattle.name_index.proofs.chain.prior.Given as goal

abbrev pub invariant-loop : goal.invariant-loop
invariant-loop g l =
    let cells = g.C.ChainCells in
    let rest = ids_from (cells.chain_of l.cells) (l.most - l.counter) l.at in
    record {
      reached : AreCells (cells.cell l.cells) rest;
      same : prior_in l.prior rest l.id ≡ prior_in 0 (ids_from (cells.chain_of l.cells) l.most l.first) l.id;
    }
