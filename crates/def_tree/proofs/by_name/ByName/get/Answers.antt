use Rattle.std.proofs.Common.{◌∙◌, ap}
use Rattle.def_tree.specs.ByName.{found}
use Rattle.def_tree.proofs.Ordered.{found_named}
use Rattle.def_tree.proofs.by_name.ByName.get.Goals as goal

pub returns : goal.returns
returns g c = c.get.ensures.value ∙ found_named c.args.name.now c.self.inside.things.entries ∙ ap (found c.args.name.now) c.self.view_is
