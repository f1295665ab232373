use Rattle.std.proofs.Common.{◌≡◌, ◌∙◌, ap, lives, refl, rules}
use Rattle.slot_pool.specs.Table.{Pool}
use Rattle.linked_pool.proofs.Keeping.{links_through}
use Rattle.linked_pool.specs.Changes.{with_links}
use Rattle.linked_pool.specs.Linking as one
use Rattle.linked_pool.specs.declared.linked.Linked.{Linked}
use Rattle.linked_pool.specs.declared.pairs.PairedPools.{PairedPools}
use Rattle.block_records.specs.declared.iterm.ITermRec.{ITermRec}
use Rattle.block_records.specs.declared.pin.PinRec.{PinRec}
use Rattle.block_records.specs.declared.prop.PropRec.{PropRec}
use Rattle.block_records.specs.declared.wire.WireRec.{WireRec}
use Rattle.block_cells.specs.declared.cells.BTermCell.{BTermCell}
use Rattle.block_cells.specs.declared.cells.GroupCell.{GroupCell}
use Rattle.block_cells.specs.declared.cells.InstCell.{InstCell}
use Rattle.block_cells.specs.Cells.{Cells}
use Rattle.block_cells.specs.Lists.{Groups, Members, Pins, Props, Terms, Wires, link_at, with_link}
use Rattle.block_cells.specs.Rooms.{CellStore}
use Rattle.block_cells.proofs.Linking.{terms_through}
use Rattle.block_cells.proofs.pools.Pools.change_links.Goals as goal

pub change_list-requires : goal.change_list-requires
change_list-requires g c κs within =
    let list = rw (c.in-Terms.is, ← c.self.view_is) at (c.requires.1.1.0) in
    let can = rw (c.in-Terms.is, ← c.self.view_is) at (c.requires.1.1.1) in
    (search (rules, lives, within) depth 24 fits 20000, (search (rules, lives, within) depth 24 fits 20000, (search (rules, lives, within) depth 24 fits 20000, (list, can))))

pub returns-in-Terms-clause-list : goal.returns-in-Terms-clause-list
returns-in-Terms-clause-list g c = rw (c.in-Terms.is) (c.change_list.ensures.list)

pub returns-in-Terms-clause-others : goal.returns-in-Terms-clause-others
returns-in-Terms-clause-others g c = rw (c.in-Terms.is, ← c.self.view_is) (c.change_list.ensures.others)

pub returns-in-Terms-clause-cells : goal.returns-in-Terms-clause-cells
returns-in-Terms-clause-cells g c =
    let old = c.args.self.now.cells in
    let made = with_links (with_link Terms) (link_at Terms) c.args.change g.ids in
    let whole : PairedPools ITermRec BTermCell → Cells = λ pools. record old { iterm = pools.first.table; bterm = pools.second.table } in
    let same : whole c.self.inside.terms ≡ old = rw (← c.self.view_is) refl in
    rw (c.in-Terms.is)
    (ap (λ (s : CellStore). record s.cells { iterm = c.change_list.new.self.first.table; bterm = c.change_list.new.self.second.table }) c.self.view_is
    ∙ ap whole c.change_list.ensures.cells ∙ terms_through old c.args.change g.ids c.self.inside.terms ∙ ap made same)

pub change_list-requires-in-Wires : goal.change_list-requires-in-Wires
change_list-requires-in-Wires g c κs within =
    let list = rw (c.in-Wires.is, ← c.self.view_is) at (c.requires.1.1.0) in
    let can = rw (c.in-Wires.is, ← c.self.view_is) at (c.requires.1.1.1) in
    (search (rules, lives, within) depth 24 fits 20000, (search (rules, lives, within) depth 24 fits 20000, (list, can)))

pub returns-in-Wires-clause-list : goal.returns-in-Wires-clause-list
returns-in-Wires-clause-list g c = rw (c.in-Wires.is) (c.change_list-in-Wires.ensures.list)

pub returns-in-Wires-clause-others : goal.returns-in-Wires-clause-others
returns-in-Wires-clause-others g c = rw (c.in-Wires.is, ← c.self.view_is) (c.change_list-in-Wires.ensures.others)

pub returns-in-Wires-clause-cells : goal.returns-in-Wires-clause-cells
returns-in-Wires-clause-cells g c =
    let old = c.args.self.now.cells in
    let made = with_links (with_link Wires) (link_at Wires) c.args.change g.ids in
    let whole : Pool (Linked WireRec) → Cells = λ pool. record old { wire = pool.table } in
    let same : whole c.self.inside.wire.pool ≡ old = rw (← c.self.view_is) refl in
    rw (c.in-Wires.is)
    (ap (λ (s : CellStore). record s.cells { wire = c.change_list-in-Wires.new.self.pool.table }) c.self.view_is
    ∙ ap whole c.change_list-in-Wires.ensures.cells
    ∙ links_through one.with_link one.link_of (with_link Wires) (link_at Wires) whole (λ pool id link. refl) (λ pool id. refl) c.args.change g.ids c.self.inside.wire.pool
    ∙ ap made same)

pub change_list-requires-in-Members : goal.change_list-requires-in-Members
change_list-requires-in-Members g c κs within =
    let list = rw (c.in-Members.is, ← c.self.view_is) at (c.requires.1.1.0) in
    let can = rw (c.in-Members.is, ← c.self.view_is) at (c.requires.1.1.1) in
    (search (rules, lives, within) depth 24 fits 20000, (search (rules, lives, within) depth 24 fits 20000, (list, can)))

pub returns-in-Members-clause-list : goal.returns-in-Members-clause-list
returns-in-Members-clause-list g c = rw (c.in-Members.is) (c.change_list-in-Members.ensures.list)

pub returns-in-Members-clause-others : goal.returns-in-Members-clause-others
returns-in-Members-clause-others g c = rw (c.in-Members.is, ← c.self.view_is) (c.change_list-in-Members.ensures.others)

pub returns-in-Members-clause-cells : goal.returns-in-Members-clause-cells
returns-in-Members-clause-cells g c =
    let old = c.args.self.now.cells in
    let made = with_links (with_link Members) (link_at Members) c.args.change g.ids in
    let whole : Pool (Linked InstCell) → Cells = λ pool. record old { inst = pool.table } in
    let same : whole c.self.inside.inst.pool ≡ old = rw (← c.self.view_is) refl in
    rw (c.in-Members.is)
    (ap (λ (s : CellStore). record s.cells { inst = c.change_list-in-Members.new.self.pool.table }) c.self.view_is
    ∙ ap whole c.change_list-in-Members.ensures.cells
    ∙ links_through one.with_link one.link_of (with_link Members) (link_at Members) whole (λ pool id link. refl) (λ pool id. refl) c.args.change g.ids c.self.inside.inst.pool
    ∙ ap made same)

pub change_list-requires-in-Pins : goal.change_list-requires-in-Pins
change_list-requires-in-Pins g c κs within =
    let list = rw (c.in-Pins.is, ← c.self.view_is) at (c.requires.1.1.0) in
    let can = rw (c.in-Pins.is, ← c.self.view_is) at (c.requires.1.1.1) in
    (search (rules, lives, within) depth 24 fits 20000, (search (rules, lives, within) depth 24 fits 20000, (list, can)))

pub returns-in-Pins-clause-list : goal.returns-in-Pins-clause-list
returns-in-Pins-clause-list g c = rw (c.in-Pins.is) (c.change_list-in-Pins.ensures.list)

pub returns-in-Pins-clause-others : goal.returns-in-Pins-clause-others
returns-in-Pins-clause-others g c = rw (c.in-Pins.is, ← c.self.view_is) (c.change_list-in-Pins.ensures.others)

pub returns-in-Pins-clause-cells : goal.returns-in-Pins-clause-cells
returns-in-Pins-clause-cells g c =
    let old = c.args.self.now.cells in
    let made = with_links (with_link Pins) (link_at Pins) c.args.change g.ids in
    let whole : Pool (Linked PinRec) → Cells = λ pool. record old { pin = pool.table } in
    let same : whole c.self.inside.pin.pool ≡ old = rw (← c.self.view_is) refl in
    rw (c.in-Pins.is)
    (ap (λ (s : CellStore). record s.cells { pin = c.change_list-in-Pins.new.self.pool.table }) c.self.view_is
    ∙ ap whole c.change_list-in-Pins.ensures.cells
    ∙ links_through one.with_link one.link_of (with_link Pins) (link_at Pins) whole (λ pool id link. refl) (λ pool id. refl) c.args.change g.ids c.self.inside.pin.pool
    ∙ ap made same)

pub change_list-requires-in-Groups : goal.change_list-requires-in-Groups
change_list-requires-in-Groups g c κs within =
    let list = rw (c.in-Groups.is, ← c.self.view_is) at (c.requires.1.1.0) in
    let can = rw (c.in-Groups.is, ← c.self.view_is) at (c.requires.1.1.1) in
    (search (rules, lives, within) depth 24 fits 20000, (search (rules, lives, within) depth 24 fits 20000, (list, can)))

pub returns-in-Groups-clause-list : goal.returns-in-Groups-clause-list
returns-in-Groups-clause-list g c = rw (c.in-Groups.is) (c.change_list-in-Groups.ensures.list)

pub returns-in-Groups-clause-others : goal.returns-in-Groups-clause-others
returns-in-Groups-clause-others g c = rw (c.in-Groups.is, ← c.self.view_is) (c.change_list-in-Groups.ensures.others)

pub returns-in-Groups-clause-cells : goal.returns-in-Groups-clause-cells
returns-in-Groups-clause-cells g c =
    let old = c.args.self.now.cells in
    let made = with_links (with_link Groups) (link_at Groups) c.args.change g.ids in
    let whole : Pool (Linked GroupCell) → Cells = λ pool. record old { group = pool.table } in
    let same : whole c.self.inside.group.pool ≡ old = rw (← c.self.view_is) refl in
    rw (c.in-Groups.is)
    (ap (λ (s : CellStore). record s.cells { group = c.change_list-in-Groups.new.self.pool.table }) c.self.view_is
    ∙ ap whole c.change_list-in-Groups.ensures.cells
    ∙ links_through one.with_link one.link_of (with_link Groups) (link_at Groups) whole (λ pool id link. refl) (λ pool id. refl) c.args.change g.ids c.self.inside.group.pool
    ∙ ap made same)

pub change_list-requires-in-Props : goal.change_list-requires-in-Props
change_list-requires-in-Props g c κs within =
    let list = rw (c.in-Props.is, ← c.self.view_is) at (c.requires.1.1.0) in
    let can = rw (c.in-Props.is, ← c.self.view_is) at (c.requires.1.1.1) in
    (search (rules, lives, within) depth 24 fits 20000, (search (rules, lives, within) depth 24 fits 20000, (list, can)))

pub returns-in-Props-clause-list : goal.returns-in-Props-clause-list
returns-in-Props-clause-list g c = rw (c.in-Props.is) (c.change_list-in-Props.ensures.list)

pub returns-in-Props-clause-others : goal.returns-in-Props-clause-others
returns-in-Props-clause-others g c = rw (c.in-Props.is, ← c.self.view_is) (c.change_list-in-Props.ensures.others)

pub returns-in-Props-clause-cells : goal.returns-in-Props-clause-cells
returns-in-Props-clause-cells g c =
    let old = c.args.self.now.cells in
    let made = with_links (with_link Props) (link_at Props) c.args.change g.ids in
    let whole : Pool (Linked PropRec) → Cells = λ pool. record old { prop = pool.table } in
    let same : whole c.self.inside.prop.pool ≡ old = rw (← c.self.view_is) refl in
    rw (c.in-Props.is)
    (ap (λ (s : CellStore). record s.cells { prop = c.change_list-in-Props.new.self.pool.table }) c.self.view_is
    ∙ ap whole c.change_list-in-Props.ensures.cells
    ∙ links_through one.with_link one.link_of (with_link Props) (link_at Props) whole (λ pool id link. refl) (λ pool id. refl) c.args.change g.ids c.self.inside.prop.pool
    ∙ ap made same)
