-- When the header is sound, a table, and the record of an identifier. A kind that is still to come has an empty table
-- until then, and no rule for records. Then its objects are judged by themselves; the rule of a kind whose objects are
-- tied to others joins here, in a file of its own.
use Rattle.std.specs.Prelude.{◌≡◌, Bool, true, false, List, ℕ, IfSome}
use Rattle.odb_base.specs.declared.codes.kind.Kind.{Kind}
use Rattle.odb_base.specs.declared.codes.kind.Kind.TheVariants as kind
use Rattle.slot_pool.specs.Table.{Table, record_at}
use Rattle.block_records.specs.Header.{new_header}
use Rattle.library.specs.declared.master.Master.{Master}
use Rattle.tech.specs.Technology.{Technology}
use Rattle.block_store.specs.Block.{Block, empty_table}
use Rattle.block_store.specs.Kinds.{table_of}
use Rattle.block_store.specs.Sound.{HasLawfulMasters}
use Rattle.block_store.specs.Tables.{IsTable}
use Rattle.block_store.specs.View.{laws}
use Rattle.block_tables.specs.RuleBlockTerminals.{IsSoundBTerm}
use Rattle.block_tables.specs.RuleInstances.{IsSoundInst}
use Rattle.block_tables.specs.RuleNets.{IsSoundNet}
use Rattle.block_tables.specs.RulePlain.{IsSoundPlain}
use Rattle.block_tables.specs.RuleTerminals.{IsSoundITerm}

-- What isn't in a table: no master has two terminals of one name, and the header is that of a new block, since
-- nothing can change it yet.
pub record IsSoundHeader (tech : Technology) (library : List Master) (b : Block) : Type 0 where
  pub masters : HasLawfulMasters library
  pub header : b.header ≡ new_header

-- a table is good, with at most so many slots, where its kind is built; that of a kind that is still to come is empty
abbrev pub IsTableIf : {A : Type 0} → Bool → ℕ → Table A → Type 0
IsTableIf true cap t = IsTable cap t
IsTableIf false cap t = t ≡ empty_table

-- the table of a kind is sound; spelled out at one kind, so that it computes at each
abbrev pub IsSoundTable : ℕ → Block → Kind → Type 0
IsSoundTable cap b kind.Inst = IsTable cap b.inst
IsSoundTable cap b k = IsTableIf (laws k).built cap (table_of k b)

-- a kind that is still to come has no rule
abbrev pub IfBuilt : Bool → Type 0 → Type 0
IfBuilt true rule = rule
IfBuilt false rule = Unit {0}

-- the record of an identifier, where it has one, is sound
abbrev pub IsSoundRecord : Technology → List Master → Block → Kind → ℕ → Type 0
IsSoundRecord tech library b kind.Inst id = IfSome (record_at b.inst id) (λ e. IsSoundInst library b id e)
IsSoundRecord tech library b kind.ITerm id = IfSome (record_at b.iterm id) (λ r. IsSoundITerm b id r)
IsSoundRecord tech library b kind.Net id = IfSome (record_at b.net id) (λ e. IsSoundNet b id e)
IsSoundRecord tech library b kind.BTerm id = IfSome (record_at b.bterm id) (λ e. IsSoundBTerm b id e)
IsSoundRecord tech library b k id =
    IfBuilt (laws k).built (IfSome (record_at (table_of k b) id) (λ e. IsSoundPlain (record { tech = tech; library = library; header = b.header }) k (table_of k b) id e))

-- the table of a kind and each of its records are sound
pub record IsSoundKind (tech : Technology) (library : List Master) (cap : ℕ) (b : Block) (k : Kind) : Type 0 where
  pub table : IsSoundTable cap b k
  pub records : (id : ℕ) → IsSoundRecord tech library b k id

-- the header and all kinds are sound
pub record AreSoundParts (tech : Technology) (library : List Master) (cap : ℕ) (b : Block) : Type 0 where
  pub header : IsSoundHeader tech library b
  pub kinds : (k : Kind) → IsSoundKind tech library cap b k
