use Rattle.std.proofs.Common.{◌∙◌, ap, refl}
use Rattle.def_tree.specs.Pairs.{pairs_of, with_pair}
use Rattle.def_tree.proofs.Ordered.{pair_put}
use Rattle.def_tree.proofs.connections.Terminals.put.Goals as goal

pub returns-clause-ok : goal.returns-clause-ok
returns-clause-ok c =
    ap pairs_of c.in_ok-insert.ensures.entries ∙ pair_put c.in_ok-component.component c.in_ok-terminal.terminal tt c.self.inside.pairs.entries
    ∙ (rw (c.in_ok-component.ensures.items_if_clones_equal (λ x y h. h), c.in_ok-terminal.ensures.items_if_clones_equal (λ x y h. h), c.self.view_is) refl)
