use Rattle.lef_tree.proofs.Pinned.{name-grows}
use Rattle.lef_tree.proofs.pins.enter.Goals as goal

pub returns-clause-ok : goal.returns-clause-ok
returns-clause-ok c =
    rw c.in_ok-insert.ensures.keys (name-grows c.in_ok-copy.copy c.args.name.now c.args.names.now.keys c.requires (c.in_ok-copy.ensures.items_if_clones_equal (λ x y h. h)))
