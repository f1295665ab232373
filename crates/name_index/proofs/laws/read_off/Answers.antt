use Rattle.name_index.proofs.Gathering.{names_in-stands}
use Rattle.name_index.proofs.laws.read_off.Goals as goal

pub returns : goal.returns
returns g c cells index names stands =
    let meaning = g.C.ChainCells in
    names_in-stands (meaning.cell cells) (meaning.name_of cells) (meaning.chain_of cells) index names (g.met.C.ChainCells.none cells) stands
