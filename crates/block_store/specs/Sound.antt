-- When a block is sound with a technology and a library: its header, its tables with their records by themselves,
-- and what ties the records to each other.
use Rattle.std.specs.Prelude.{◌≡◌, false, List, ℕ, Option, Some, option_map}
use Rattle.std.specs.Option.{option_map_or}
use Rattle.slot_pool.specs.Table.{Table, record_at}
use Rattle.odb_base.specs.declared.codes.kind.Kind.{Kind}
use Rattle.block_records.specs.Header.{new_header}
use Rattle.tech.specs.Technology.{Technology}
use Rattle.library.specs.Masters.{master_at}
use Rattle.library.specs.Terminals.{HasDistinctTerminals}
use Rattle.library.specs.declared.master.Master.{Master}
use Rattle.block_store.specs.Block.{Block, empty_table}
use Rattle.block_store.specs.KindLaws.{Parts}
use Rattle.block_store.specs.Kinds.{Entry, table_of}
use Rattle.block_store.specs.Lists.{list_in}
use Rattle.block_store.specs.Sorts.{IsHeld, Sort}
use Rattle.block_store.specs.Tables.{AreEach, HasDistinctNames, IsTable}
use Rattle.block_store.specs.TermPlaces.{AreTermsPlaced}
use Rattle.block_store.specs.View.{View, laws, view}

-- the terminals of a net
abbrev pub net_terms : Block → ℕ → List ℕ
net_terms b net = list_in (λ e. e.terms) (record_at b.net net)

-- the net that an instance terminal is joined to, 0 for none
abbrev pub iterm_net : Block → ℕ → ℕ
iterm_net b id = option_map_or (λ r. r.net) (record_at b.iterm id) 0

-- the net that a block terminal is joined to, 0 for none
abbrev pub bterm_net : Block → ℕ → ℕ
bterm_net b id = option_map_or (λ e. e.fields.net) (record_at b.bterm id) 0

-- the terminals of an instance
abbrev pub inst_terms : Block → ℕ → List ℕ
inst_terms b inst = list_in (λ e. e.fields.terminals) (record_at b.inst inst)

-- the instance that an instance terminal names, and its place there
abbrev pub iterm_place : Block → ℕ → Option (ℕ × ℕ)
iterm_place b id = option_map (λ r. (r.inst, r.index)) (record_at b.iterm id)

-- no master of the library has two terminals of one name
abbrev pub HasLawfulMasters : List Master → Type 0
HasLawfulMasters library = (id : ℕ) (m : Master) → master_at library id ≡ Some m → HasDistinctTerminals m

-- The table of a kind is good and within the cap, each of its records is lawful, and no two have one name. That of a
-- kind that is still to come is empty.
pub record IsKind (parts : Parts) (cap : ℕ) (k : Kind) (t : Table (Entry k)) : Type 0 where
  pub table : IsTable cap t
  pub each : AreEach ((laws k).Is parts) t
  pub named : HasDistinctNames (laws k).name t
  pub coming : (laws k).built ≡ false → t ≡ empty_table

-- Records go together: lists hold just the objects that name theirs, and terminals stand at their places.
pub record AreJoined (v : View) : Type 0 where
  pub held : (s : Sort) → IsHeld s v
  pub placed : AreTermsPlaced v

pub record IsSound (tech : Technology) (library : List Master) (cap : ℕ) (b : Block) : Type 0 where
  pub masters : HasLawfulMasters library
  pub header : b.header ≡ new_header
  pub kinds : (k : Kind) → IsKind (record { tech = tech; library = library; header = b.header }) cap k (table_of k b)
  pub joined : AreJoined (view b)
