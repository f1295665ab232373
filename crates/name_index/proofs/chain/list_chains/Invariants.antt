-- The chains so far are listed.
use Rattle.std.proofs.Common.{◌≡◌, take}
use Rattle.std.specs.List.{flat_map}
use Rattle.name_index.specs.Chain.{ids_from}
use Rattle.name_index.proofs.chain.list_chains.Given as goal

abbrev pub invariant-loop-first : goal.invariant-loop-first
invariant-loop-first g l = l.ids.items ≡ flat_map (ids_from (g.C.ChainCells.chain_of l.cells) l.most) (take l.first-index l.heads)
