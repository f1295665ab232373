use Rattle.std.proofs.Common.{lives, rules}
use Rattle.block_store.specs.Lists.{list_at}
use Rattle.block_links.specs.Standing.{block_of}
use Rattle.block_links.specs.Stores.{named}
use Rattle.block_links.proofs.ListMoves.{become_linked, can_links, has_then, head_stands, is_linked}
use Rattle.block_links.proofs.block.Block.change_list.Goals as goal

pub change_links-next-requires : goal.change_links-next-requires
change_links-next-requires g c κs within =
    let cells = c.self.inside.pools.cells in
    let has = rw (← c.self.view_is) at c.requires.has in
    let can = rw (← c.self.view_is) at c.requires.can in
    let linked = is_linked c.args.list (block_of cells) has in
    (search (rules, lives, within) depth 24 fits 20000, (linked, (rw (c.head-head.ensures) (head_stands cells c.self.invariant.0.stands c.args.list linked), can_links c.args.list c.args.change cells has can)))

pub set_head-requires : goal.set_head-requires
set_head-requires g c =
    let cells = c.self.inside.pools.cells in
    let has = rw (← c.self.view_is) at c.requires.has in
    has_then c.args.list c.args.change (list_at (named c.args.list) (block_of cells)) cells c.change_links-next.new.self.cells has c.change_links-next.ensures.cells

pub invariant_of-self : goal.invariant_of-self
invariant_of-self g c =
    let has = rw (← c.self.view_is) at c.requires.has in
    let can = rw (← c.self.view_is) at c.requires.can in
    let links = c.change_links-next in
    ((become_linked c.args.list c.args.change links.new.head c.self.inside.pools.cells links.new.self.cells _ c.self.invariant.0 has can (record { cells = links.ensures.cells; list = links.ensures.list; others = links.ensures.others }) c.set_head.ensures.cells).lawful, c.self.invariant.1)

pub returns-clause-next : goal.returns-clause-next
returns-clause-next g c = rw (← c.self.view_is) c.change_links-next.ensures.next

pub returns-clause-block : goal.returns-clause-block
returns-clause-block g c =
    let has = rw (← c.self.view_is) at c.requires.has in
    let can = rw (← c.self.view_is) at c.requires.can in
    let links = c.change_links-next in
    rw (← c.self.view_is) ((become_linked c.args.list c.args.change links.new.head c.self.inside.pools.cells links.new.self.cells _ c.self.invariant.0 has can (record { cells = links.ensures.cells; list = links.ensures.list; others = links.ensures.others }) c.set_head.ensures.cells).block)
