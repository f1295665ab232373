use Rattle.link_list.proofs.Changes.{after-is, zero_outside}
use Rattle.link_list.proofs.Linking.{member_is_cell}
use Rattle.odb_base.proofs.Splits.{split_at}
use Rattle.link_list.proofs.Walking.{step_of, walk_end, walk_first, walk_last, walk_member, walk_shorter}
use Rattle.link_list.proofs.edits.last.Goals as goal

pub link-next-requires : goal.link-next-requires
link-next-requires g c =
    member_is_cell (g.C.LinkCells.cell c.args.cells.now) (g.C.LinkCells.link_of c.args.cells.now) 0 g.ids 0 c.loop-next.next c.requires.1.linked
    (walk_member c.loop-next.next g.ids c.loop-next-test.true c.loop-next.invariant.first)

pub loop-next-smaller : goal.loop-next-smaller
loop-next-smaller g c =
    let cells = g.C.LinkCells in
    let laws = g.met.C.LinkCells in
    let zero = zero_outside cells.with_link cells.link_of cells.cell laws.none laws.kept laws.set laws.others c.args.cells.now 0 g.ids 0 c.requires.1.linked in
    let s = split_at c.loop-next.next g.ids (walk_member c.loop-next.next g.ids c.loop-next-test.true c.loop-next.invariant.first) in
    let after = after-is cells.with_link cells.link_of cells.cell laws.none laws.kept laws.set laws.others c.args.cells.now c.args.head c.loop-next.next g.ids s c.requires.1 c.link-next.result c.link-next.ensures in
    walk_shorter c.loop-next.next g.ids c.link-next.result.after (step_of c.loop-next.next c.link-next.result.after g.ids s c.requires.1.distinct zero after)

pub loop-next-preserved : goal.loop-next-preserved
loop-next-preserved g c =
    let cells = g.C.LinkCells in
    let laws = g.met.C.LinkCells in
    let zero = zero_outside cells.with_link cells.link_of cells.cell laws.none laws.kept laws.set laws.others c.args.cells.now 0 g.ids 0 c.requires.1.linked in
    let s = split_at c.loop-next.next g.ids (walk_member c.loop-next.next g.ids c.loop-next-test.true c.loop-next.invariant.first) in
    let after = after-is cells.with_link cells.link_of cells.cell laws.none laws.kept laws.set laws.others c.args.cells.now c.args.head c.loop-next.next g.ids s c.requires.1 c.link-next.result c.link-next.ensures in
    let step = step_of c.loop-next.next c.link-next.result.after g.ids s c.requires.1.distinct zero after in
    record {
      first = walk_first c.loop-next.next g.ids c.link-next.result.after step;
      last = walk_last c.loop-next.next g.ids c.link-next.result.after c.loop-next.last step c.loop-next.invariant.last;
    }

pub returns : goal.returns
returns g c =
    let cells = g.C.LinkCells in
    let laws = g.met.C.LinkCells in
    let zero = zero_outside cells.with_link cells.link_of cells.cell laws.none laws.kept laws.set laws.others c.args.cells.now 0 g.ids 0 c.requires.1.linked in
    walk_end c.loop-next.next g.ids c.loop-next.last zero c.loop-next-test.false c.loop-next.invariant.last
