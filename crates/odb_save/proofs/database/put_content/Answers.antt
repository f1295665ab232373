use Rattle.std.proofs.Common.{◌≡◌, Some, slice_get}
use Rattle.odb_save.proofs.Fitting.{master_fits}
use Rattle.odb_save.proofs.database.put_content.Goals as goal

pub put_named-requires : goal.put_named-requires
put_named-requires c = λ place m here.
    let found : slice_get c.db.inside.library place ≡ Some m = rw c.masters.ensures at here in
    master_fits c.db.inside.tech m (c.db.invariant.library.masters place m found)
