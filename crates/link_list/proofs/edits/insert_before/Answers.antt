use Rattle.odb_base.specs.Ids.{placed}
use Rattle.link_list.specs.Standing.{left_of, number}
use Rattle.link_list.proofs.Changes.{enter_cells, enter_left, enter_list, enter_named, enter_others, enter_right}
use Rattle.link_list.proofs.Members.{place_of}
use Rattle.link_list.proofs.edits.insert_before.Goals as goal

pub set_after-requires : goal.set_after-requires
set_after-requires g c =
    let cells = g.C.LinkCells in
    let laws = g.met.C.LinkCells in
    let place = place_of c.args.id g.ids c.args.next c.requires.1.1.1.1.1 in
    rw (c.set_link.ensures.cells, c.place-before.ensures, c.unwrap_or-after.ensures)
    (enter_left cells.with_link cells.link_of cells.cell laws.none laws.kept laws.set laws.others c.args.cells.now c.args.head.now c.args.id (left_of g.ids c.args.next) (number c.args.next) g.ids (placed c.args.id c.args.next g.ids) place c.requires.1.1.0 c.requires.1.1.1.1.0 c.requires.1.1.1.0)

pub set_before-requires : goal.set_before-requires
set_before-requires g c =
    let cells = g.C.LinkCells in
    let laws = g.met.C.LinkCells in
    let place = place_of c.args.id g.ids c.args.next c.requires.1.1.1.1.1 in
    rw (c.set_after.ensures.cells, c.set_link.ensures.cells, c.place-before.ensures, c.unwrap_or-after.ensures)
    (enter_right cells.with_link cells.link_of cells.cell laws.none laws.kept laws.set laws.others c.args.cells.now c.args.head.now c.args.id (left_of g.ids c.args.next) (number c.args.next) g.ids (placed c.args.id c.args.next g.ids) place c.requires.1.1.0 c.requires.1.1.1.1.0 c.requires.1.1.1.0)

pub returns-clause-list : goal.returns-clause-list
returns-clause-list g c =
    let cells = g.C.LinkCells in
    let laws = g.met.C.LinkCells in
    let place = place_of c.args.id g.ids c.args.next c.requires.1.1.1.1.1 in
    rw (c.set_first.ensures, c.set_before.ensures.cells, c.set_after.ensures.cells, c.set_link.ensures.cells, c.place-before.ensures, c.unwrap_or-after.ensures)
    (enter_list cells.with_link cells.link_of cells.cell laws.none laws.kept laws.set laws.others c.args.cells.now c.args.head.now c.args.id (left_of g.ids c.args.next) (number c.args.next) g.ids (placed c.args.id c.args.next g.ids) place c.requires.1.1.0 c.requires.1.1.1.1.0 c.requires.1.1.1.0)

pub returns-clause-kept : goal.returns-clause-kept
returns-clause-kept g c =
    let cells = g.C.LinkCells in
    let laws = g.met.C.LinkCells in
    let place = place_of c.args.id g.ids c.args.next c.requires.1.1.1.1.1 in
    rw (c.set_before.ensures.cells, c.set_after.ensures.cells, c.set_link.ensures.cells, c.place-before.ensures, c.unwrap_or-after.ensures)
    (enter_named cells.with_link cells.link_of cells.cell laws.none laws.kept laws.set laws.others c.args.cells.now c.args.head.now c.args.id (left_of g.ids c.args.next) (number c.args.next) g.ids (placed c.args.id c.args.next g.ids) place c.requires.1.1.0 c.requires.1.1.1.1.0 c.requires.1.1.1.0)

pub returns-clause-others : goal.returns-clause-others
returns-clause-others g c =
    let cells = g.C.LinkCells in
    let laws = g.met.C.LinkCells in
    let place = place_of c.args.id g.ids c.args.next c.requires.1.1.1.1.1 in
    rw (c.set_before.ensures.cells, c.set_after.ensures.cells, c.set_link.ensures.cells, c.place-before.ensures, c.unwrap_or-after.ensures)
    (enter_others cells.with_link cells.link_of cells.cell laws.none laws.kept laws.set laws.others c.args.cells.now c.args.head.now c.args.id (left_of g.ids c.args.next) (number c.args.next) g.ids (placed c.args.id c.args.next g.ids) place c.requires.1.1.0 c.requires.1.1.1.1.0 c.requires.1.1.1.0)

pub returns-clause-cells : goal.returns-clause-cells
returns-clause-cells g c =
    let cells = g.C.LinkCells in
    let laws = g.met.C.LinkCells in
    let place = place_of c.args.id g.ids c.args.next c.requires.1.1.1.1.1 in
    rw (c.set_before.ensures.cells, c.set_after.ensures.cells, c.set_link.ensures.cells, c.place-before.ensures, c.unwrap_or-after.ensures)
    (enter_cells cells.with_link cells.link_of cells.cell laws.none laws.kept laws.set laws.others c.args.cells.now c.args.head.now c.args.id (left_of g.ids c.args.next) (number c.args.next) g.ids (placed c.args.id c.args.next g.ids) place c.requires.1.1.0 c.requires.1.1.1.1.0 c.requires.1.1.1.0)
