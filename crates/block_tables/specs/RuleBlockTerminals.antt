-- When a terminal of the block is sound.
use Rattle.std.specs.Prelude.{◌≢◌, ◌≤◌, ℕ}
use Rattle.slot_pool.specs.Table.{times}
use Rattle.block_store.specs.declared.entry.BTermEntry.{BTermEntry}
use Rattle.block_store.specs.Block.{Block}
use Rattle.block_store.specs.Lists.{bterm_number}
use Rattle.block_store.specs.BlockTerminals.{IsBTerm}
use Rattle.block_store.specs.Sound.{net_terms}
use Rattle.block_tables.specs.Names.{IsAlone}

-- the block terminal of an identifier is sound
pub record IsSoundBTerm (b : Block) (id : ℕ) (e : BTermEntry) : Type 0 where
  -- its values are lawful
  pub values : IsBTerm e
  -- no other terminal of the block has its name
  pub alone : IsAlone (λ e. e.fields.name) b.bterm id e.fields.name
  -- where it names a net, that net has it among its terminals
  pub joined : e.fields.net ≢ 0 → 1 ≤ times (bterm_number id) (net_terms b e.fields.net)
