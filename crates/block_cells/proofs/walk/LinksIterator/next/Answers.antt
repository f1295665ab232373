use Rattle.std.proofs.Common.{◌∷◌, ◌∙◌, ap, arith, length, sym}
use Rattle.link_list.specs.declared.link.Link.{Link}
use Rattle.block_cells.specs.Lists.{is_cell, link_at, most, rest_from, sort_of}
use Rattle.block_cells.proofs.Reading.{cell_few, cell_none}
use Rattle.block_cells.proofs.Walking.{step}
use Rattle.block_cells.proofs.walk.LinksIterator.next.Goals as goal

pub returns-clause-steps : goal.returns-clause-steps
returns-clause-steps c =
    let cells = c.self.inside.pools.now.cells in
    let s = sort_of c.self.inside.list in
    let next = c.self.inside.next in
    let first = step (is_cell s cells) (link_at s cells) (cell_none s cells) (most s cells) (cell_few s cells) next c.self.invariant c.if-self-eq0.false in
    sym c.self.view_is ∙ first.members ∙ ap (λ (link : Link). next ∷ rest_from s cells link.after) (sym c.link.ensures)

-- one member fewer is left
pub returns-clause-goes : goal.returns-clause-goes
returns-clause-goes c =
    let steps = returns-clause-steps c in
    record { on = λ _. (tt, tt, omega (arith, ap length steps)); keeps = tt; rests = λ _. tt }
