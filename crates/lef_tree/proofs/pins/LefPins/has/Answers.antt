use Rattle.std.proofs.Common.{◌∙◌}
use Rattle.lef_tree.proofs.Pinned.{key-found}
use Rattle.lef_tree.proofs.pins.LefPins.has.Goals as goal

pub returns : goal.returns
returns c = rw (← c.self.view_is) (c.contains.ensures ∙ key-found c.args.name.now _ _ c.self.invariant)
