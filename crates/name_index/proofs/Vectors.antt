-- An index over cells in a vector.
use Rattle.std.proofs.Common.{List, refl, sym, subst}
use Rattle.name_index.specs.Index.{Index, Stands}
use Rattle.name_index.specs.Names.{Names}
use Rattle.name_index.specs.VecCells.{Cell, IsIndex, cell, chain_of, name_of}
use Rattle.name_index.proofs.Gathering.{names_in-stands}

-- an index that stands for a map stands for the one that is read off the chains
pub is_index : (cells : List Cell) (index : Index) (names : Names) → Stands (cell cells) (name_of cells) (chain_of cells) index names → IsIndex cells index
is_index cells index names stands =
    let P : Names → Type 0 = λ m. Stands (cell cells) (name_of cells) (chain_of cells) index m in
    subst P (sym (names_in-stands (cell cells) (name_of cells) (chain_of cells) index names refl stands)) stands
