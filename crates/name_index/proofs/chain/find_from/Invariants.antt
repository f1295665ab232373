-- What is found in the rest of the chain is what is found in all of it.
use Rattle.std.proofs.Common.{◌≡◌, ◌-◌}
use Rattle.std.specs.List.{find}
use Rattle.std.specs.Str.{bytes_eq}
use Rattle.name_index.specs.Chain.{AreCells, ids_from}
use Rattle.name_index.proofs.chain.find_from.Given as goal

abbrev pub invariant-loop : goal.invariant-loop
invariant-loop g l =
    let cells = g.C.ChainCells in
    let rest = ids_from (cells.chain_of l.cells) (l.most - l.counter) l.id in
    record {
      reached : AreCells (cells.cell l.cells) rest;
      same : find (λ id. bytes_eq (cells.name_of l.cells id) l.name) rest ≡ find (λ id. bytes_eq (cells.name_of l.cells id) l.name) (ids_from (cells.chain_of l.cells) l.most l.first);
    }
