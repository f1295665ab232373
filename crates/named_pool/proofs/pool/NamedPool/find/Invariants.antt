use Rattle.named_pool.specs.Held.{held}
use Rattle.named_pool.proofs.pool.NamedPool.find.Given as goal

abbrev pub ghost-find : goal.ghost-find
ghost-find g a = held g.R.Named.own_name a.cells.now a.self.now
