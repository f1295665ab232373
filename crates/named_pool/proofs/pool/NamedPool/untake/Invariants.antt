use Rattle.named_pool.specs.Held.{held}
use Rattle.named_pool.proofs.pool.NamedPool.untake.Given as goal

abbrev pub ghost-drop_name : goal.ghost-drop_name
ghost-drop_name g a = held g.R.Named.own_name a.cells.now a.self.now
