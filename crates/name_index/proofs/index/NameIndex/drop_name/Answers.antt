use Rattle.std.proofs.Common.{◌∙◌, ◌<◌, ap, length, sym, arith}
use Rattle.std.proofs.lemmas.List.{with_items_is}
use Rattle.name_index.proofs.Effects.{drop_cells, drop_kept, drop_named, drop_stands, held_some, length-dropped, reached, spare_dropped}
use Rattle.name_index.proofs.index.NameIndex.drop_name.Goals as goal

pub overflow_sub-self : goal.overflow_sub-self
overflow_sub-self g c =
    let cells = g.C.ChainCells in
    let stands = rw (← c.self.view_is) at c.requires.1.1.0 in
    held_some (cells.cell c.args.cells.now) (cells.name_of c.args.cells.now) (cells.chain_of c.args.cells.now) _ g.names stands (cells.name_of c.args.cells.now c.args.id) c.args.id c.requires.1.1.1.1

pub take_out-requires-clause-some : goal.take_out-requires-clause-some
take_out-requires-clause-some g c =
    let cells = g.C.ChainCells in
    let stands = rw (← c.self.view_is) at c.requires.1.1.0 in
    let held = held_some (cells.cell c.args.cells.now) (cells.name_of c.args.cells.now) (cells.chain_of c.args.cells.now) _ g.names stands (cells.name_of c.args.cells.now c.args.id) c.args.id c.requires.1.1.1.1 in
    omega (arith, held, c.self.invariant, c.deref_mut.ensures.len)

pub take_out-requires-clause-reached : goal.take_out-requires-clause-reached
take_out-requires-clause-reached g c =
    let cells = g.C.ChainCells in
    let laws = g.met.C.ChainCells in
    let stands = rw (← c.self.view_is) at c.requires.1.1.0 in
    let held = held_some (cells.cell c.args.cells.now) (cells.name_of c.args.cells.now) (cells.chain_of c.args.cells.now) _ g.names stands (cells.name_of c.args.cells.now c.args.id) c.args.id c.requires.1.1.1.1 in
    let some : 0 < length c.self.inside.heads.items = omega (arith, held, c.self.invariant, c.self.inside.heads.ok.0) in
    rw c.deref_mut.ensures.value
    (reached cells.with_chain cells.cell cells.name_of cells.chain_of laws.none laws.kept laws.named laws.set laws.others c.args.cells.now _ g.names stands c.args.id some c.requires.1.1.1.1)

pub returns-clause-stands : goal.returns-clause-stands
returns-clause-stands g c =
    let cells = g.C.ChainCells in
    let laws = g.met.C.ChainCells in
    let stands = rw (← c.self.view_is) at c.requires.1.1.0 in
    let held = held_some (cells.cell c.args.cells.now) (cells.name_of c.args.cells.now) (cells.chain_of c.args.cells.now) _ g.names stands (cells.name_of c.args.cells.now c.args.id) c.args.id c.requires.1.1.1.1 in
    let some : 0 < length c.self.inside.heads.items = omega (arith, held, c.self.invariant, c.self.inside.heads.ok.0) in
    let heads = c.self.inside.heads in
    let set = rw c.deref_mut.ensures.value at c.take_out.ensures.heads in
    let same = length-dropped cells.with_chain cells.cell cells.name_of cells.chain_of laws.none laws.kept laws.named laws.set laws.others c.args.cells.now _ g.names stands c.args.id some c.requires.1.1.1.1 in
    let is = with_items_is heads c.take_out.new.heads (ap length set ∙ same ∙ sym heads.ok.0) ∙ set in
    drop_stands cells.with_chain cells.cell cells.name_of cells.chain_of laws.none laws.kept laws.named laws.set laws.others c.args.cells.now _ g.names stands c.args.id some c.requires.1.1.1.1
    c.take_out.new.cells _ is (rw c.deref_mut.ensures.value at c.take_out.ensures.cells)

pub returns-clause-spare : goal.returns-clause-spare
returns-clause-spare g c =
    let cells = g.C.ChainCells in
    let laws = g.met.C.ChainCells in
    let stands = rw (← c.self.view_is) at c.requires.1.1.0 in
    let held = held_some (cells.cell c.args.cells.now) (cells.name_of c.args.cells.now) (cells.chain_of c.args.cells.now) _ g.names stands (cells.name_of c.args.cells.now c.args.id) c.args.id c.requires.1.1.1.1 in
    let some : 0 < length c.self.inside.heads.items = omega (arith, held, c.self.invariant, c.self.inside.heads.ok.0) in
    let heads = c.self.inside.heads in
    let set = rw c.deref_mut.ensures.value at c.take_out.ensures.heads in
    let same = length-dropped cells.with_chain cells.cell cells.name_of cells.chain_of laws.none laws.kept laws.named laws.set laws.others c.args.cells.now _ g.names stands c.args.id some c.requires.1.1.1.1 in
    let is = with_items_is heads c.take_out.new.heads (ap length set ∙ same ∙ sym heads.ok.0) ∙ set in
    rw (← c.self.view_is) (spare_dropped heads.items _ c.self.inside.held (ap length is ∙ same) held (omega (arith, c.self.invariant, heads.ok.0)))

pub returns-clause-kept : goal.returns-clause-kept
returns-clause-kept g c =
    let cells = g.C.ChainCells in
    let laws = g.met.C.ChainCells in
    let stands = rw (← c.self.view_is) at c.requires.1.1.0 in
    let held = held_some (cells.cell c.args.cells.now) (cells.name_of c.args.cells.now) (cells.chain_of c.args.cells.now) _ g.names stands (cells.name_of c.args.cells.now c.args.id) c.args.id c.requires.1.1.1.1 in
    let some : 0 < length c.self.inside.heads.items = omega (arith, held, c.self.invariant, c.self.inside.heads.ok.0) in
    drop_kept cells.with_chain cells.cell cells.name_of cells.chain_of laws.none laws.kept laws.named laws.set laws.others c.args.cells.now _ g.names stands c.args.id some c.requires.1.1.1.1 c.take_out.new.cells (rw c.deref_mut.ensures.value at c.take_out.ensures.cells)

pub returns-clause-named : goal.returns-clause-named
returns-clause-named g c =
    let cells = g.C.ChainCells in
    let laws = g.met.C.ChainCells in
    let stands = rw (← c.self.view_is) at c.requires.1.1.0 in
    let held = held_some (cells.cell c.args.cells.now) (cells.name_of c.args.cells.now) (cells.chain_of c.args.cells.now) _ g.names stands (cells.name_of c.args.cells.now c.args.id) c.args.id c.requires.1.1.1.1 in
    let some : 0 < length c.self.inside.heads.items = omega (arith, held, c.self.invariant, c.self.inside.heads.ok.0) in
    drop_named cells.with_chain cells.cell cells.name_of cells.chain_of laws.none laws.kept laws.named laws.set laws.others c.args.cells.now _ g.names stands c.args.id some c.requires.1.1.1.1 c.take_out.new.cells (rw c.deref_mut.ensures.value at c.take_out.ensures.cells)

pub returns-clause-cells : goal.returns-clause-cells
returns-clause-cells g c =
    let cells = g.C.ChainCells in
    let laws = g.met.C.ChainCells in
    let stands = rw (← c.self.view_is) at c.requires.1.1.0 in
    let held = held_some (cells.cell c.args.cells.now) (cells.name_of c.args.cells.now) (cells.chain_of c.args.cells.now) _ g.names stands (cells.name_of c.args.cells.now c.args.id) c.args.id c.requires.1.1.1.1 in
    let some : 0 < length c.self.inside.heads.items = omega (arith, held, c.self.invariant, c.self.inside.heads.ok.0) in
    drop_cells cells.with_chain cells.cell cells.name_of cells.chain_of laws.none laws.kept laws.named laws.set laws.others c.args.cells.now _ g.names stands c.args.id some c.requires.1.1.1.1 c.take_out.new.cells (rw c.deref_mut.ensures.value at c.take_out.ensures.cells)
