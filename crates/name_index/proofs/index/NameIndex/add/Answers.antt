use Rattle.std.proofs.Common.{◌∙◌, ◌<◌, ap, length, length-set, sym, arith}
use Rattle.std.proofs.lemmas.List.{with_items_is}
use Rattle.name_index.proofs.Effects.{add_cells, add_stands}
use Rattle.name_index.proofs.index.NameIndex.add.Goals as goal

pub returns-clause-stands : goal.returns-clause-stands
returns-clause-stands g c =
    let cells = g.C.ChainCells in
    let laws = g.met.C.ChainCells in
    let heads = c.self.inside.heads in
    let stands = rw (← c.self.view_is) at c.requires.1.1.0 in
    let room = rw (← c.self.view_is) at c.requires.1.1.1.1.1 in
    let some : 0 < length heads.items = omega (arith, room) in
    let set = rw c.deref_mut.ensures.value at c.put.ensures.heads in
    let is = with_items_is heads c.put.new.heads (ap length set ∙ length-set heads.items _ c.args.id ∙ sym heads.ok.0) ∙ set in
    add_stands cells.with_chain cells.cell cells.name_of cells.chain_of laws.none laws.kept laws.named laws.set laws.others c.args.cells.now _ g.names stands c.args.id
    c.put.new.cells _ c.requires.1.1.1.0 c.requires.1.1.1.1.0 some is (rw c.deref_mut.ensures.value at c.put.ensures.cells)

pub returns-clause-cells : goal.returns-clause-cells
returns-clause-cells g c =
    let cells = g.C.ChainCells in
    let laws = g.met.C.ChainCells in
    let stands = rw (← c.self.view_is) at c.requires.1.1.0 in
    add_cells cells.with_chain cells.cell cells.name_of cells.chain_of laws.none laws.kept laws.named laws.set laws.others c.args.cells.now _ g.names stands c.args.id
    c.put.new.cells (rw c.deref_mut.ensures.value at c.put.ensures.cells)
