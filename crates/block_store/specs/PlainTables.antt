-- Tables of which a block can be made.
use Rattle.std.specs.Prelude.{ℕ}
use Rattle.block_store.specs.Block.{Block}
use Rattle.odb_base.specs.declared.codes.kind.Kind.{Kind}
use Rattle.block_store.specs.Kinds.{table_of}
use Rattle.block_store.specs.Tables.{HasDistinctNames, IsTable}
use Rattle.block_store.specs.View.{laws}

-- each table is good, with at most so many slots
pub record AreTables (cap : ℕ) (b : Block) : Type 0 where
  pub inst : IsTable cap b.inst
  pub iterm : IsTable cap b.iterm
  pub net : IsTable cap b.net
  pub bterm : IsTable cap b.bterm
  pub pin : IsTable cap b.pin
  pub row : IsTable cap b.row
  pub track : IsTable cap b.track
  pub wire : IsTable cap b.wire
  pub blockage : IsTable cap b.blockage
  pub region : IsTable cap b.region
  pub group : IsTable cap b.group
  pub prop : IsTable cap b.prop

-- no two objects of a kind have one name
abbrev pub HaveDistinctNames : Block → Type 0
HaveDistinctNames b = (k : Kind) → HasDistinctNames (laws k).name (table_of k b)
