use Rattle.std.proofs.Common.{◌∷◌}
use Rattle.link_list.proofs.Changes.{enter_list, enter_others}
use Rattle.link_list.proofs.Members.{front_place}
use Rattle.link_list.proofs.edits.push_front.Goals as goal

pub returns-clause-list : goal.returns-clause-list
returns-clause-list g c =
    let cells = g.C.LinkCells in
    let laws = g.met.C.LinkCells in
    let place = front_place c.args.id g.ids c.args.head.now.first c.requires.1.1.0.first_member in
    rw (c.set_before.ensures.cells, c.set_link.ensures.cells)
    (enter_list cells.with_link cells.link_of cells.cell laws.none laws.kept laws.set laws.others c.args.cells.now c.args.head.now c.args.id 0 c.args.head.now.first g.ids (c.args.id ∷ g.ids) place c.requires.1.1.0 c.requires.1.1.1.1 c.requires.1.1.1.0)

pub returns-clause-others : goal.returns-clause-others
returns-clause-others g c =
    let cells = g.C.LinkCells in
    let laws = g.met.C.LinkCells in
    let place = front_place c.args.id g.ids c.args.head.now.first c.requires.1.1.0.first_member in
    rw (c.set_before.ensures.cells, c.set_link.ensures.cells)
    (enter_others cells.with_link cells.link_of cells.cell laws.none laws.kept laws.set laws.others c.args.cells.now c.args.head.now c.args.id 0 c.args.head.now.first g.ids (c.args.id ∷ g.ids) place c.requires.1.1.0 c.requires.1.1.1.1 c.requires.1.1.1.0)
