use Rattle.std.proofs.Common.{IsTrue}
use Rattle.odb_base.specs.Ids.{holds}
use Rattle.link_list.proofs.Changes.{leave_before}
use Rattle.link_list.proofs.Linking.{member_is_cell}
use Rattle.odb_base.proofs.Splits.{split_at}
use Rattle.link_list.proofs.edits.place.Goals as goal

pub link-requires : goal.link-requires
link-requires g c =
    member_is_cell (g.C.LinkCells.cell c.args.cells.now) (g.C.LinkCells.link_of c.args.cells.now) 0 g.ids 0 c.in-Some.next c.requires.1.0.linked (rw c.in-Some.is at c.requires.1.1)

pub returns-in-Some : goal.returns-in-Some
returns-in-Some g c =
    let cells = g.C.LinkCells in
    let laws = g.met.C.LinkCells in
    let member : IsTrue (holds g.ids c.in-Some.next) = rw c.in-Some.is at c.requires.1.1 in
    rw c.in-Some.is
    (leave_before cells.with_link cells.link_of cells.cell laws.none laws.kept laws.set laws.others c.args.cells.now c.args.head c.in-Some.next g.ids (split_at c.in-Some.next g.ids member) c.requires.1.0 c.link.result c.link.ensures)
