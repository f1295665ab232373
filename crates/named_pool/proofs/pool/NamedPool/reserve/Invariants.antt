use Rattle.named_pool.specs.Held.{held}
use Rattle.named_pool.proofs.pool.NamedPool.reserve.Given as goal

abbrev pub ghost-reserve : goal.ghost-reserve
ghost-reserve g a = held g.R.Named.own_name a.cells.now a.self.now
