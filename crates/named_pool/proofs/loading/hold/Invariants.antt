use Rattle.named_pool.specs.Held.{held}
use Rattle.named_pool.proofs.loading.hold.Given as goal

abbrev pub ghost-add : goal.ghost-add
ghost-add g a = held g.R.Named.own_name a.cells.now a.self.now
