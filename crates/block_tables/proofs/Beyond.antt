-- Identifiers that have no record: 0, and those past the slots.
use Rattle.std.proofs.Common.{◌≡◌, ◌<◌, ◌≤◌, Bool, true, false, List, ℕ, Option, Some, None, IfSome, ap, arith}
use Rattle.odb_base.specs.declared.codes.kind.Kind.{Kind}
use Rattle.odb_base.specs.declared.codes.kind.Kind.TheVariants as kind
use Rattle.slot_pool.specs.Table.{Table, record_at}
use Rattle.library.specs.declared.master.Master.{Master}
use Rattle.tech.specs.Technology.{Technology}
use Rattle.block_store.specs.Block.{Block, slots_in}
use Rattle.block_store.specs.Kinds.{table_of}
use Rattle.block_store.specs.View.{laws}
use Rattle.block_store.proofs.Changed.{parts_by}
use Rattle.block_tables.specs.RuleBlockTerminals.{IsSoundBTerm}
use Rattle.block_tables.specs.RuleInstances.{IsSoundInst}
use Rattle.block_tables.specs.RuleNets.{IsSoundNet}
use Rattle.block_tables.specs.RulePlain.{IsSoundPlain}
use Rattle.block_tables.specs.RuleTerminals.{IsSoundITerm}
use Rattle.block_tables.specs.Rules.{IfBuilt, IsSoundRecord}
use Rattle.block_tables.proofs.Standings.{past_none}

module _ {A : Type 0} where
  -- nothing is asked where there is no record
  if_none : (o : Option A) (P : A → Type 0) → o ≡ None → IfSome o P
  if_none None P h = tt
  if_none (Some x) P h = cc

  zero_none : (t : Table A) (id : ℕ) → id ≤ 0 → record_at t id ≡ None
  zero_none t id h = let zero : id ≡ 0 = omega (arith, h) in ap (record_at t) zero

-- a rule that holds anyway
pub if_built : (built : Bool) (rule : Type 0) → rule → IfBuilt built rule
if_built true rule holds = holds
if_built false rule holds = tt

module _ (tech : Technology) (library : List Master) (b : Block) where
  none_sound : (k : Kind) (id : ℕ) → record_at (table_of k b) id ≡ None → IsSoundRecord tech library b k id
  none_sound kind.Inst id none = if_none (record_at b.inst id) (λ e. IsSoundInst library b id e) none
  none_sound kind.ITerm id none = if_none (record_at b.iterm id) (λ r. IsSoundITerm b id r) none
  none_sound kind.Net id none = if_none (record_at b.net id) (λ e. IsSoundNet b id e) none
  none_sound kind.BTerm id none = if_none (record_at b.bterm id) (λ e. IsSoundBTerm b id e) none
  none_sound k id none = if_built (laws k).built _ (if_none (record_at (table_of k b) id) (λ e. IsSoundPlain (parts_by tech library b.header) k (table_of k b) id e) none)

  pub at_zero : (k : Kind) (id : ℕ) → id ≤ 0 → IsSoundRecord tech library b k id
  at_zero k id h = none_sound k id (zero_none (table_of k b) id h)

  pub past_slots : (k : Kind) (id : ℕ) → slots_in k b < id → IsSoundRecord tech library b k id
  past_slots kind.Inst id h = none_sound kind.Inst id (past_none b.inst id h)
  past_slots k id h = none_sound k id (past_none (table_of k b) id h)
