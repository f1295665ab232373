use Rattle.block_store.proofs.Databases.{sound_database}
use Rattle.block_store.proofs.database.Database.new.Goals as goal

pub invariant_of-result : goal.invariant_of-result
invariant_of-result c =
    rw (c.new-2.ensures, c.new-3.ensures, c.in_ok-block.ensures.block, c.in_ok-block.ensures.cap) (sound_database c.args.cap c.requires)
