use Rattle.std.proofs.Common.{◌∙◌, ap, refl}
use Rattle.def_tree.specs.ByName.{named, put}
use Rattle.def_tree.proofs.Ordered.{put_named}
use Rattle.def_tree.proofs.by_name.ByName.put.Goals as goal

pub returns-in-Ok-clause-ok : goal.returns-in-Ok-clause-ok
returns-in-Ok-clause-ok g c =
    ap named c.in-Ok.ensures.entries ∙ put_named c.in_ok-name.name c.args.thing c.self.inside.things.entries
    ∙ (rw (c.in_ok-name.ensures.items_if_clones_equal (λ x y h. h), c.self.view_is) refl)
