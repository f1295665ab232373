use Rattle.std.proofs.Common.{◌∙◌}
use Rattle.link_list.proofs.Changes.{leave_cells, leave_left, leave_list, leave_named, leave_next, leave_others, leave_right}
use Rattle.link_list.proofs.Linking.{member_is_cell}
use Rattle.odb_base.proofs.Splits.{split_at}
use Rattle.link_list.proofs.edits.unlink.Goals as goal

pub link-link-requires : goal.link-link-requires
link-link-requires g c =
    member_is_cell (g.C.LinkCells.cell c.args.cells.now) (g.C.LinkCells.link_of c.args.cells.now) 0 g.ids 0 c.args.id c.requires.1.1.0.linked c.requires.1.1.1

pub set_after-requires : goal.set_after-requires
set_after-requires g c =
    let cells = g.C.LinkCells in
    let laws = g.met.C.LinkCells in
    leave_left cells.with_link cells.link_of cells.cell laws.none laws.kept laws.set laws.others c.args.cells.now c.args.head.now c.args.id g.ids (split_at c.args.id g.ids c.requires.1.1.1) c.requires.1.1.0 c.link-link.result c.link-link.ensures

pub set_before-requires : goal.set_before-requires
set_before-requires g c =
    let cells = g.C.LinkCells in
    let laws = g.met.C.LinkCells in
    rw c.set_after.ensures.cells
    (leave_right cells.with_link cells.link_of cells.cell laws.none laws.kept laws.set laws.others c.args.cells.now c.args.head.now c.args.id g.ids (split_at c.args.id g.ids c.requires.1.1.1) c.requires.1.1.0 c.link-link.result c.link-link.ensures)

pub returns-clause-list : goal.returns-clause-list
returns-clause-list g c =
    let cells = g.C.LinkCells in
    let laws = g.met.C.LinkCells in
    rw (c.set_first.ensures, c.set_before.ensures.cells, c.set_after.ensures.cells)
    (leave_list cells.with_link cells.link_of cells.cell laws.none laws.kept laws.set laws.others c.args.cells.now c.args.head.now c.args.id g.ids (split_at c.args.id g.ids c.requires.1.1.1) c.requires.1.1.0 c.link-link.result c.link-link.ensures)

pub returns-clause-next : goal.returns-clause-next
returns-clause-next g c =
    let cells = g.C.LinkCells in
    let laws = g.met.C.LinkCells in
    c.named.ensures
    ∙ leave_next cells.with_link cells.link_of cells.cell laws.none laws.kept laws.set laws.others c.args.cells.now c.args.head.now c.args.id g.ids (split_at c.args.id g.ids c.requires.1.1.1) c.requires.1.1.0 c.link-link.result c.link-link.ensures

pub returns-clause-kept : goal.returns-clause-kept
returns-clause-kept g c =
    let cells = g.C.LinkCells in
    let laws = g.met.C.LinkCells in
    rw (c.set_before.ensures.cells, c.set_after.ensures.cells)
    (leave_named cells.with_link cells.link_of cells.cell laws.none laws.kept laws.set laws.others c.args.cells.now c.args.head.now c.args.id g.ids (split_at c.args.id g.ids c.requires.1.1.1) c.requires.1.1.0 c.link-link.result c.link-link.ensures)

pub returns-clause-others : goal.returns-clause-others
returns-clause-others g c =
    let cells = g.C.LinkCells in
    let laws = g.met.C.LinkCells in
    rw (c.set_before.ensures.cells, c.set_after.ensures.cells)
    (leave_others cells.with_link cells.link_of cells.cell laws.none laws.kept laws.set laws.others c.args.cells.now c.args.head.now c.args.id g.ids (split_at c.args.id g.ids c.requires.1.1.1) c.requires.1.1.0 c.link-link.result c.link-link.ensures)

pub returns-clause-cells : goal.returns-clause-cells
returns-clause-cells g c =
    let cells = g.C.LinkCells in
    let laws = g.met.C.LinkCells in
    rw (c.set_before.ensures.cells, c.set_after.ensures.cells)
    (leave_cells cells.with_link cells.link_of cells.cell laws.none laws.kept laws.set laws.others c.args.cells.now c.args.head.now c.args.id g.ids (split_at c.args.id g.ids c.requires.1.1.1) c.requires.1.1.0 c.link-link.result c.link-link.ensures)
