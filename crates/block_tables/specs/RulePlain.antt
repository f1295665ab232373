-- When an object is sound that nothing ties to others: by its values and its name.
use Rattle.std.specs.Prelude.{ℕ}
use Rattle.odb_base.specs.declared.codes.kind.Kind.{Kind}
use Rattle.slot_pool.specs.Table.{Table}
use Rattle.block_store.specs.KindLaws.{Parts}
use Rattle.block_store.specs.Kinds.{Entry}
use Rattle.block_store.specs.View.{laws}
use Rattle.block_tables.specs.Names.{HasOwnName}

-- the object of an identifier is sound
pub record IsSoundPlain (parts : Parts) (k : Kind) (t : Table (Entry k)) (id : ℕ) (e : Entry k) : Type 0 where
  -- its values are lawful
  pub values : (laws k).Is parts e
  -- no other object of the kind has its name, where it has one
  pub alone : HasOwnName (laws k).name t id e
