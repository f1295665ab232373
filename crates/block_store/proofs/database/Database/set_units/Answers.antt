use Rattle.block_store.proofs.Databases.{sound_with_units}
use Rattle.block_store.proofs.database.Database.set_units.Goals as goal

pub invariant_of-self : goal.invariant_of-self
invariant_of-self c = rw (c.set_units.ensures) (sound_with_units _ c.args.n c.self.invariant c.requires)
