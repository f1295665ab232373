-- When a terminal of an instance is sound.
use Rattle.std.specs.Prelude.{◌≡◌, ◌≢◌, ◌≤◌, ℕ, Some, slice_get}
use Rattle.slot_pool.specs.Table.{times}
use Rattle.block_records.specs.declared.iterm.ITermRec.{ITermRec}
use Rattle.block_store.specs.Block.{Block}
use Rattle.block_store.specs.Lists.{iterm_number}
use Rattle.block_store.specs.Sound.{inst_terms, net_terms}

-- the instance terminal of an identifier is sound
pub record IsSoundITerm (b : Block) (id : ℕ) (r : ITermRec) : Type 0 where
  -- it stands at its index among the terminals of the instance that it names
  pub place : slice_get (inst_terms b r.inst) r.index ≡ Some id
  -- where it names a net, that net has it among its terminals
  pub joined : r.net ≢ 0 → 1 ≤ times (iterm_number id) (net_terms b r.net)
