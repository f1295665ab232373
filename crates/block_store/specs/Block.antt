-- The block as a model: a header, and one table for each kind of objects. Where objects of a kind have lists of
-- other objects, a row of the table is an entry, the record with its lists.
use Rattle.std.specs.Prelude.{◌+◌, ◌-◌, Bool, true, false, List, [], ◌∷◌, ℕ, Option, length, option_map}
use Rattle.odb_base.specs.declared.codes.kind.Kind.{Kind}
use Rattle.odb_base.specs.declared.codes.kind.Kind.TheVariants as kind
use Rattle.block_records.specs.declared.record.Record.{Record}
use Rattle.block_records.specs.declared.record.Record.TheVariants as rec
use Rattle.block_records.specs.declared.header.Header.{Header}
use Rattle.block_records.specs.declared.iterm.ITermRec.{ITermRec}
use Rattle.block_records.specs.declared.pin.PinRec.{PinRec}
use Rattle.block_records.specs.declared.track.TrackRec.{TrackRec}
use Rattle.block_records.specs.declared.wire.WireRec.{WireRec}
use Rattle.block_records.specs.declared.blockage.BlockageRec.{BlockageRec}
use Rattle.block_records.specs.declared.prop.PropRec.{PropRec}
use Rattle.block_store.specs.declared.entry.InstEntry.{InstEntry}
use Rattle.block_store.specs.declared.entry.NetEntry.{NetEntry}
use Rattle.block_store.specs.declared.entry.BTermEntry.{BTermEntry}
use Rattle.block_store.specs.declared.entry.RowEntry.{RowEntry}
use Rattle.block_store.specs.declared.entry.RegionEntry.{RegionEntry}
use Rattle.block_store.specs.declared.entry.GroupEntry.{GroupEntry}
use Rattle.slot_pool.specs.Table.{Table, is_live, next_id, record_at}

-- the objects of a design
pub record Block : Type 0 where
  pub header : Header
  pub inst : Table InstEntry
  pub iterm : Table ITermRec
  pub net : Table NetEntry
  pub bterm : Table BTermEntry
  pub pin : Table PinRec
  pub row : Table RowEntry
  pub track : Table TrackRec
  pub wire : Table WireRec
  pub blockage : Table BlockageRec
  pub region : Table RegionEntry
  pub group : Table GroupEntry
  pub prop : Table PropRec

-- a table without slots
abbrev pub empty_table : {A : Type 0} → Table A
empty_table = record { slots = []; free = [] }

-- a list has no members
abbrev pub is_empty : {A : Type 0} → List A → Bool
is_empty [] = true
is_empty (x ∷ xs) = false

-- a block without objects
abbrev pub empty_block : Header → Block
empty_block header = record {
  header = header;
  inst = empty_table;
  iterm = empty_table;
  net = empty_table;
  bterm = empty_table;
  pin = empty_table;
  row = empty_table;
  track = empty_table;
  wire = empty_table;
  blockage = empty_table;
  region = empty_table;
  group = empty_table;
  prop = empty_table;
}

-- what is asked of any table, asked of that of a kind
abbrev pub on_table : {R : Type 0} → ((A : Type 0) → Table A → R) → Kind → Block → R
on_table ask kind.Inst b = ask InstEntry b.inst
on_table ask kind.ITerm b = ask ITermRec b.iterm
on_table ask kind.Net b = ask NetEntry b.net
on_table ask kind.BTerm b = ask BTermEntry b.bterm
on_table ask kind.Pin b = ask PinRec b.pin
on_table ask kind.Row b = ask RowEntry b.row
on_table ask kind.Track b = ask TrackRec b.track
on_table ask kind.Wire b = ask WireRec b.wire
on_table ask kind.Blockage b = ask BlockageRec b.blockage
on_table ask kind.Region b = ask RegionEntry b.region
on_table ask kind.Group b = ask GroupEntry b.group
on_table ask kind.Prop b = ask PropRec b.prop

-- how many slots the table of a kind has
abbrev pub slots_in : Kind → Block → ℕ
slots_in k b = on_table (λ A t. length t.slots) k b

-- the free identifiers of a kind, top first
abbrev pub free_in : Kind → Block → List ℕ
free_in k b = on_table (λ A t. t.free) k b

-- the identifier has an object of the kind
abbrev pub live_in : Kind → ℕ → Block → Bool
live_in k id b = on_table (λ A t. is_live t id) k b

-- the identifier that the next new object of the kind gets
abbrev pub next_in : Kind → Block → ℕ
next_in k b = on_table (λ A t. next_id t 0) k b

-- the identifier that a new object of the kind gets after so many further ones
abbrev pub later_in : Kind → ℕ → Block → ℕ
later_in k n b = on_table (λ A t. next_id t n) k b

-- how many new objects of the kind the cap allows
abbrev pub left_in : Kind → ℕ → Block → ℕ
left_in k cap b = length (free_in k b) + (cap - slots_in k b)

-- the record of an object
abbrev pub record_of : Kind → ℕ → Block → Option Record
record_of kind.Inst id b = option_map (λ e. rec.Inst e.fields) (record_at b.inst id)
record_of kind.ITerm id b = option_map (λ r. rec.ITerm r) (record_at b.iterm id)
record_of kind.Net id b = option_map (λ e. rec.Net e.fields) (record_at b.net id)
record_of kind.BTerm id b = option_map (λ e. rec.BTerm e.fields) (record_at b.bterm id)
record_of kind.Pin id b = option_map (λ r. rec.Pin r) (record_at b.pin id)
record_of kind.Row id b = option_map (λ e. rec.Row e.fields) (record_at b.row id)
record_of kind.Track id b = option_map (λ r. rec.Track r) (record_at b.track id)
record_of kind.Wire id b = option_map (λ r. rec.Wire r) (record_at b.wire id)
record_of kind.Blockage id b = option_map (λ r. rec.Blockage r) (record_at b.blockage id)
record_of kind.Region id b = option_map (λ e. rec.Region e.fields) (record_at b.region id)
record_of kind.Group id b = option_map (λ e. rec.Group e.fields) (record_at b.group id)
record_of kind.Prop id b = option_map (λ r. rec.Prop r) (record_at b.prop id)
