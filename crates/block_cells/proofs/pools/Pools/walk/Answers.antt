use Rattle.std.proofs.Common.{◌∙◌, ap}
use Rattle.link_list.specs.declared.link.Head.{Head}
use Rattle.link_list.proofs.Reading.{members-stands}
use Rattle.block_cells.specs.Lists.{head_at, is_cell, link_at, most, rest_from, sort_of}
use Rattle.block_cells.proofs.Reading.{cell_few, cell_none}
use Rattle.block_cells.proofs.pools.Pools.walk.Goals as goal

pub returns : goal.returns
returns g c =
    let cells = c.args.self.now.cells in
    let s = sort_of c.args.list in
    ap (λ (h : Head). rest_from s cells h.first) c.head.ensures
    ∙ members-stands (is_cell s cells) (link_at s cells) (cell_none s cells) (head_at c.args.list cells) g.ids (most s cells) (cell_few s cells) c.requires
