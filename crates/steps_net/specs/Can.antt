-- When an elementary step may be done. The cap of the tables is no part of it.
use Rattle.std.specs.Prelude.{◌≡◌, ◌≤◌, ◌↔◌, false, List, [], ℕ, Option, None, Some, IsSome, IsTrue, length, slice_get}
use Rattle.std.specs.Option.{option_and_then}
use Rattle.slot_pool.specs.Table.{Table, is_live, next_id, record_at}
use Rattle.odb_base.specs.Direction.{is_bterm_direction}
use Rattle.odb_base.specs.Name.{IsName}
use Rattle.odb_base.specs.declared.codes.kind.Kind.{Kind}
use Rattle.odb_base.specs.declared.codes.kind.Kind.TheVariants as kind
use Rattle.odb_base.specs.declared.geometry.Placement.{Placement}
use Rattle.library.specs.Masters.{master_at}
use Rattle.library.specs.Terminals.{term_index}
use Rattle.library.specs.declared.master.Master.{Master}
use Rattle.tech.specs.Technology.{Technology}
use Rattle.block_records.specs.Record.{kind_of}
use Rattle.block_records.specs.declared.record.Record.{Record}
use Rattle.block_records.specs.declared.record.Record.TheVariants as rec
use Rattle.edit_words.specs.Tag.{NewObject, new_object}
use Rattle.edit_words.specs.declared.step.Step.{Step}
use Rattle.edit_words.specs.declared.step.Step.TheVariants as step
use Rattle.block_store.specs.Alone.{IsNew}
use Rattle.block_store.specs.Block.{Block, live_in, next_in}
use Rattle.block_store.specs.Fields.{HasPlace, HasUsage, net_in, special_in}
use Rattle.block_store.specs.Names.{HasNames, IsFree}
use Rattle.block_store.specs.Instances.{term_count}
use Rattle.block_store.specs.KindLaws.{Parts}
use Rattle.block_store.specs.Kinds.{Entry}
use Rattle.block_store.specs.Moves.{new_bterm, new_group, new_inst, new_net, new_region, new_row}
use Rattle.block_store.specs.Placements.{IsPlacement}
use Rattle.block_store.specs.Sound.{inst_terms, iterm_net, net_terms}
use Rattle.block_store.specs.View.{laws}

-- these are the identifiers that a table gives next, in their order
abbrev pub AreNext : {A : Type 0} → List ℕ → Table A → Type 0
AreNext ids t = (k id : ℕ) → slice_get ids k ≡ Some id → id ≡ next_id t k

-- a new object of a kind with names: the identifier is the next one, and no object of the kind has the name
pub record CanName (k : Kind) (b : Block) (id : ℕ) (name : List ℕ) : Type 0 where
  pub next : id ≡ next_in k b
  pub lawful : IsName name
  pub free : IsFree k name b

-- a new instance, besides: the master is in the library, and the terminals are the next ones, one for each of
-- the master's
pub record CanNewInst (library : List Master) (b : Block) (id : ℕ) (name : List ℕ) (master : ℕ) (terminals : List ℕ) : Type 0 where
  pub named : CanName kind.Inst b id name
  pub fitted : term_count library master ≡ Some (length terminals)
  pub terms : AreNext terminals b.iterm

-- a record as the entry of a new object, which has empty lists
abbrev pub new_entry : (r : Record) → Entry (kind_of r)
new_entry (rec.Inst r) = new_inst r
new_entry (rec.ITerm r) = r
new_entry (rec.Net r) = new_net r
new_entry (rec.BTerm r) = new_bterm r
new_entry (rec.Pin r) = r
new_entry (rec.Row r) = new_row r
new_entry (rec.Track r) = r
new_entry (rec.Wire r) = r
new_entry (rec.Blockage r) = r
new_entry (rec.Region r) = new_region r
new_entry (rec.Group r) = new_group r
new_entry (rec.Prop r) = r

-- a new object of any kind: the identifier is the next one, it is lawful beside the technology, the library and the
-- header, and no object of the kind has its name
pub record CanMake (parts : Parts) (b : Block) (new : NewObject) : Type 0 where
  pub next : new.id ≡ next_in (kind_of new.object) b
  pub lawful : (laws (kind_of new.object)).Is parts (new_entry new.object)
  pub free : IsNew new.object b

-- there is a new object, and it can be made
abbrev pub CanNew : Parts → Block → Option NewObject → Type 0
CanNew parts b None = ⊥
CanNew parts b (Some new) = CanMake parts b new

-- none of these instance terminals is joined
abbrev pub AreUnjoined : List ℕ → Block → Type 0
AreUnjoined terminals b = (k id : ℕ) → slice_get terminals k ≡ Some id → iterm_net b id ≡ 0

-- An object goes on which nothing hangs, and which hangs on nothing. A terminal of an instance goes only with it.
abbrev pub CanDel : Block → Kind → ℕ → Type 0
CanDel b kind.Inst id = IsTrue (is_live b.inst id) × AreUnjoined (inst_terms b id) b
CanDel b kind.ITerm id = ⊥
CanDel b kind.Net id = IsTrue (is_live b.net id) × (net_terms b id ≡ [])
CanDel b kind.BTerm id = net_in kind.BTerm id b ≡ Some 0
CanDel b other id = IsTrue (live_in other id b)

-- another name for an object of a kind with names, which no object of the kind has
pub record CanRename (b : Block) (k : Kind) (id : ℕ) (name : List ℕ) : Type 0 where
  pub kind : HasNames k
  pub live : IsTrue (live_in k id b)
  pub lawful : IsName name
  pub free : IsFree k name b

-- the master of an instance
abbrev pub inst_master : List Master → Block → ℕ → Option Master
inst_master library b inst = option_and_then (λ e. master_at library e.fields.master) (record_at b.inst inst)

-- the two masters have the same names of terminals
abbrev pub HaveSameTerms : Master → Master → Type 0
HaveSameTerms old new = (name : List ℕ) → IsSome (term_index old name) ↔ IsSome (term_index new name)

-- another master for an instance, with the same names of terminals
pub record CanSwap (library : List Master) (b : Block) (inst master : ℕ) : Type 0 where
  pub old : Master
  pub new : Master
  pub is_old : inst_master library b inst ≡ Some old
  pub is_new : master_at library master ≡ Some new
  pub same : HaveSameTerms old new

-- a lawful placement for an object of a kind that has one
pub record CanPlace (b : Block) (k : Kind) (id : ℕ) (place : Placement) : Type 0 where
  pub kind : HasPlace k
  pub live : IsTrue (live_in k id b)
  pub lawful : IsPlacement place

-- a use for an object of a kind that has one
pub record CanSetUse (b : Block) (k : Kind) (id : ℕ) : Type 0 where
  pub kind : HasUsage k
  pub live : IsTrue (live_in k id b)

-- a terminal that is joined to nothing, and a net
pub record CanJoin (b : Block) (k : Kind) (id net : ℕ) : Type 0 where
  pub unjoined : net_in k id b ≡ Some 0
  pub there : IsTrue (is_live b.net net)

-- a terminal that is joined to this net
pub record CanPart (b : Block) (k : Kind) (id net : ℕ) : Type 0 where
  pub joined : net_in k id b ≡ Some net
  pub some : 1 ≤ net

-- the step may be done
abbrev pub Can : Technology → List Master → Block → Step → Type 0
Can tech library b (step.NewInst id name master terminals) = CanNewInst library b id name master terminals
Can tech library b (step.Del k id) = CanDel b k id
Can tech library b (step.Rename k id name) = CanRename b k id name
Can tech library b (step.Swap inst master) = CanSwap library b inst master
Can tech library b (step.Place k id place) = CanPlace b k id place
Can tech library b (step.SetUse k id usage) = CanSetUse b k id
Can tech library b (step.SetDir bterm direction) = IsTrue (is_live b.bterm bterm) × IsTrue (is_bterm_direction direction)
Can tech library b (step.MakeSpecial net) = special_in net b ≡ Some false
Can tech library b (step.Join k id net) = CanJoin b k id net
Can tech library b (step.Part k id net) = CanPart b k id net
Can tech library b other = CanNew (record { tech = tech; library = library; header = b.header }) b (new_object other)
