use Rattle.std.proofs.Common.{◌∙◌, ap}
use Rattle.def_tree.specs.ByName.{found, named, without}
use Rattle.def_tree.proofs.Ordered.{found_named, without_named}
use Rattle.def_tree.proofs.by_name.ByName.take.Goals as goal

pub returns-clause-thing : goal.returns-clause-thing
returns-clause-thing g c = c.remove.ensures.value ∙ found_named c.args.name.now c.self.inside.things.entries ∙ ap (found c.args.name.now) c.self.view_is

pub returns-clause-left : goal.returns-clause-left
returns-clause-left g c =
    ap named c.remove.ensures.entries ∙ without_named c.args.name.now c.self.inside.things.entries ∙ ap (without c.args.name.now) c.self.view_is
