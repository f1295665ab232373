use Rattle.std.proofs.Common.{◌≡◌, Some, slice_get}
use Rattle.odb_save.proofs.Fitting.{via_fits}
use Rattle.odb_save.proofs.technology.put_tech.Goals as goal

pub put_named-requires-2 : goal.put_named-requires-2
put_named-requires-2 c = λ place via here.
    let at_place : slice_get c.args.tech.now.vias place ≡ Some via = rw c.vias.ensures at here in
    via_fits c.args.tech.now via (c.requires.vias place via at_place)
