use Rattle.link_list.proofs.Reading.{members-stands}
use Rattle.link_list.proofs.laws.read_off.Goals as goal

pub returns : goal.returns
returns g c cells first ids most few stands =
    members-stands (g.C.LinkCells.cell cells) (g.C.LinkCells.link_of cells) (g.met.C.LinkCells.none cells) first ids most few stands
