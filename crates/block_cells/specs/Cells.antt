-- A block as it lies in its pools: a header, and one table of cells for each kind of objects. A cell has the record of its
-- object, the first member of each list that the object has, and, where objects of the kind stand in lists, a link.
use Rattle.std.specs.Prelude.{Bool, true, false, List, [], ◌∷◌, ℕ, Option, length, option_map}
use Rattle.slot_pool.specs.Mapped.{on_record}
use Rattle.slot_pool.specs.Table.{CanUntake, Table, given, is_live, live_count, next_id, record_at, taken, ungiven, untaken}
use Rattle.odb_base.specs.declared.codes.kind.Kind.{Kind}
use Rattle.odb_base.specs.declared.codes.kind.Kind.TheVariants as kind
use Rattle.link_list.specs.declared.link.Head.{Head}
use Rattle.linked_pool.specs.declared.linked.Linked.{Linked}
use Rattle.linked_pool.specs.Linking.{no_link}
use Rattle.block_records.specs.declared.header.Header.{Header}
use Rattle.block_records.specs.declared.record.Record.{Record}
use Rattle.block_records.specs.declared.record.Record.TheVariants as rec
use Rattle.block_records.specs.declared.iterm.ITermRec.{ITermRec}
use Rattle.block_records.specs.declared.pin.PinRec.{PinRec}
use Rattle.block_records.specs.declared.track.TrackRec.{TrackRec}
use Rattle.block_records.specs.declared.wire.WireRec.{WireRec}
use Rattle.block_records.specs.declared.blockage.BlockageRec.{BlockageRec}
use Rattle.block_records.specs.declared.prop.PropRec.{PropRec}
use Rattle.block_cells.specs.declared.cells.InstCell.{InstCell}
use Rattle.block_cells.specs.declared.cells.NetCell.{NetCell}
use Rattle.block_cells.specs.declared.cells.BTermCell.{BTermCell}
use Rattle.block_cells.specs.declared.cells.RowCell.{RowCell}
use Rattle.block_cells.specs.declared.cells.RegionCell.{RegionCell}
use Rattle.block_cells.specs.declared.cells.GroupCell.{GroupCell}

-- a head of no members
abbrev pub no_head : Head
no_head = record { first = 0 }

pub record Cells : Type 0 where
  pub header : Header
  pub inst : Table (Linked InstCell)
  pub iterm : Table (Linked ITermRec)
  pub net : Table NetCell
  pub bterm : Table (Linked BTermCell)
  pub pin : Table (Linked PinRec)
  pub row : Table RowCell
  pub track : Table TrackRec
  pub wire : Table (Linked WireRec)
  pub blockage : Table BlockageRec
  pub region : Table RegionCell
  pub group : Table (Linked GroupCell)
  pub prop : Table (Linked PropRec)

-- what a slot of a kind's table holds
abbrev pub Cell : Kind → Type 0
Cell kind.Inst = Linked InstCell
Cell kind.ITerm = Linked ITermRec
Cell kind.Net = NetCell
Cell kind.BTerm = Linked BTermCell
Cell kind.Pin = Linked PinRec
Cell kind.Row = RowCell
Cell kind.Track = TrackRec
Cell kind.Wire = Linked WireRec
Cell kind.Blockage = BlockageRec
Cell kind.Region = RegionCell
Cell kind.Group = Linked GroupCell
Cell kind.Prop = Linked PropRec

-- the table of a kind
abbrev pub cells_of : (k : Kind) → Cells → Table (Cell k)
cells_of kind.Inst c = c.inst
cells_of kind.ITerm c = c.iterm
cells_of kind.Net c = c.net
cells_of kind.BTerm c = c.bterm
cells_of kind.Pin c = c.pin
cells_of kind.Row c = c.row
cells_of kind.Track c = c.track
cells_of kind.Wire c = c.wire
cells_of kind.Blockage c = c.blockage
cells_of kind.Region c = c.region
cells_of kind.Group c = c.group
cells_of kind.Prop c = c.prop

-- the cells with another table of a kind
abbrev pub with_cells : (k : Kind) → Table (Cell k) → Cells → Cells
with_cells kind.Inst t c = record c { inst = t }
with_cells kind.ITerm t c = record c { iterm = t }
with_cells kind.Net t c = record c { net = t }
with_cells kind.BTerm t c = record c { bterm = t }
with_cells kind.Pin t c = record c { pin = t }
with_cells kind.Row t c = record c { row = t }
with_cells kind.Track t c = record c { track = t }
with_cells kind.Wire t c = record c { wire = t }
with_cells kind.Blockage t c = record c { blockage = t }
with_cells kind.Region t c = record c { region = t }
with_cells kind.Group t c = record c { group = t }
with_cells kind.Prop t c = record c { prop = t }

-- a list has no members
abbrev pub is_empty : {A : Type 0} → List A → Bool
is_empty [] = true
is_empty (x ∷ xs) = false

-- the record of an object
abbrev pub record_of : Kind → ℕ → Cells → Option Record
record_of kind.Inst id c = option_map (λ x. rec.Inst x.value.fields) (record_at c.inst id)
record_of kind.ITerm id c = option_map (λ x. rec.ITerm x.value) (record_at c.iterm id)
record_of kind.Net id c = option_map (λ x. rec.Net x.fields) (record_at c.net id)
record_of kind.BTerm id c = option_map (λ x. rec.BTerm x.value.fields) (record_at c.bterm id)
record_of kind.Pin id c = option_map (λ x. rec.Pin x.value) (record_at c.pin id)
record_of kind.Row id c = option_map (λ x. rec.Row x.fields) (record_at c.row id)
record_of kind.Track id c = option_map (λ x. rec.Track x) (record_at c.track id)
record_of kind.Wire id c = option_map (λ x. rec.Wire x.value) (record_at c.wire id)
record_of kind.Blockage id c = option_map (λ x. rec.Blockage x) (record_at c.blockage id)
record_of kind.Region id c = option_map (λ x. rec.Region x.fields) (record_at c.region id)
record_of kind.Group id c = option_map (λ x. rec.Group x.value.fields) (record_at c.group id)
record_of kind.Prop id c = option_map (λ x. rec.Prop x.value) (record_at c.prop id)

-- a new object
abbrev pub taken_cell : Record → Cells → Cells
taken_cell (rec.Inst r) c = record c { inst = taken (record { value = record { fields = r; props = no_head }; link = no_link }) c.inst }
taken_cell (rec.ITerm r) c = record c { iterm = taken (record { value = r; link = no_link }) c.iterm }
taken_cell (rec.Net r) c = record c { net = taken (record { fields = r; terms = no_head; wires = no_head; props = no_head }) c.net }
taken_cell (rec.BTerm r) c = record c { bterm = taken (record { value = record { fields = r; pins = no_head }; link = no_link }) c.bterm }
taken_cell (rec.Pin r) c = record c { pin = taken (record { value = r; link = no_link }) c.pin }
taken_cell (rec.Row r) c = record c { row = taken (record { fields = r; props = no_head }) c.row }
taken_cell (rec.Track r) c = record c { track = taken r c.track }
taken_cell (rec.Wire r) c = record c { wire = taken (record { value = r; link = no_link }) c.wire }
taken_cell (rec.Blockage r) c = record c { blockage = taken r c.blockage }
taken_cell (rec.Region r) c = record c { region = taken (record { fields = r; groups = no_head; props = no_head }) c.region }
taken_cell (rec.Group r) c = record c { group = taken (record { value = record { fields = r; members = no_head; props = no_head }; link = no_link }) c.group }
taken_cell (rec.Prop r) c = record c { prop = taken (record { value = r; link = no_link }) c.prop }

-- an object that goes
abbrev pub given_cell : Kind → ℕ → Cells → Cells
given_cell kind.Inst id c = record c { inst = given id c.inst }
given_cell kind.ITerm id c = record c { iterm = given id c.iterm }
given_cell kind.Net id c = record c { net = given id c.net }
given_cell kind.BTerm id c = record c { bterm = given id c.bterm }
given_cell kind.Pin id c = record c { pin = given id c.pin }
given_cell kind.Row id c = record c { row = given id c.row }
given_cell kind.Track id c = record c { track = given id c.track }
given_cell kind.Wire id c = record c { wire = given id c.wire }
given_cell kind.Blockage id c = record c { blockage = given id c.blockage }
given_cell kind.Region id c = record c { region = given id c.region }
given_cell kind.Group id c = record c { group = given id c.group }
given_cell kind.Prop id c = record c { prop = given id c.prop }

-- a new object taken back
abbrev pub untaken_cell : Kind → ℕ → Bool → Cells → Cells
untaken_cell kind.Inst id grew c = record c { inst = untaken id grew c.inst }
untaken_cell kind.ITerm id grew c = record c { iterm = untaken id grew c.iterm }
untaken_cell kind.Net id grew c = record c { net = untaken id grew c.net }
untaken_cell kind.BTerm id grew c = record c { bterm = untaken id grew c.bterm }
untaken_cell kind.Pin id grew c = record c { pin = untaken id grew c.pin }
untaken_cell kind.Row id grew c = record c { row = untaken id grew c.row }
untaken_cell kind.Track id grew c = record c { track = untaken id grew c.track }
untaken_cell kind.Wire id grew c = record c { wire = untaken id grew c.wire }
untaken_cell kind.Blockage id grew c = record c { blockage = untaken id grew c.blockage }
untaken_cell kind.Region id grew c = record c { region = untaken id grew c.region }
untaken_cell kind.Group id grew c = record c { group = untaken id grew c.group }
untaken_cell kind.Prop id grew c = record c { prop = untaken id grew c.prop }

-- the new object can be taken back
abbrev pub CanUntakeCell : Kind → ℕ → Bool → Cells → Type 0
CanUntakeCell kind.Inst id grew c = CanUntake c.inst id grew
CanUntakeCell kind.ITerm id grew c = CanUntake c.iterm id grew
CanUntakeCell kind.Net id grew c = CanUntake c.net id grew
CanUntakeCell kind.BTerm id grew c = CanUntake c.bterm id grew
CanUntakeCell kind.Pin id grew c = CanUntake c.pin id grew
CanUntakeCell kind.Row id grew c = CanUntake c.row id grew
CanUntakeCell kind.Track id grew c = CanUntake c.track id grew
CanUntakeCell kind.Wire id grew c = CanUntake c.wire id grew
CanUntakeCell kind.Blockage id grew c = CanUntake c.blockage id grew
CanUntakeCell kind.Region id grew c = CanUntake c.region id grew
CanUntakeCell kind.Group id grew c = CanUntake c.group id grew
CanUntakeCell kind.Prop id grew c = CanUntake c.prop id grew

-- an object that went and is back
abbrev pub ungiven_cell : Record → Cells → Cells
ungiven_cell (rec.Inst r) c = record c { inst = ungiven (record { value = record { fields = r; props = no_head }; link = no_link }) c.inst }
ungiven_cell (rec.ITerm r) c = record c { iterm = ungiven (record { value = r; link = no_link }) c.iterm }
ungiven_cell (rec.Net r) c = record c { net = ungiven (record { fields = r; terms = no_head; wires = no_head; props = no_head }) c.net }
ungiven_cell (rec.BTerm r) c = record c { bterm = ungiven (record { value = record { fields = r; pins = no_head }; link = no_link }) c.bterm }
ungiven_cell (rec.Pin r) c = record c { pin = ungiven (record { value = r; link = no_link }) c.pin }
ungiven_cell (rec.Row r) c = record c { row = ungiven (record { fields = r; props = no_head }) c.row }
ungiven_cell (rec.Track r) c = record c { track = ungiven r c.track }
ungiven_cell (rec.Wire r) c = record c { wire = ungiven (record { value = r; link = no_link }) c.wire }
ungiven_cell (rec.Blockage r) c = record c { blockage = ungiven r c.blockage }
ungiven_cell (rec.Region r) c = record c { region = ungiven (record { fields = r; groups = no_head; props = no_head }) c.region }
ungiven_cell (rec.Group r) c = record c { group = ungiven (record { value = record { fields = r; members = no_head; props = no_head }; link = no_link }) c.group }
ungiven_cell (rec.Prop r) c = record c { prop = ungiven (record { value = r; link = no_link }) c.prop }

-- the cells with that of one object changed
abbrev pub on_cell : (k : Kind) → (Cell k → Cell k) → ℕ → Cells → Cells
on_cell k change id c = with_cells k (on_record change id (cells_of k c)) c

-- no objects
abbrev pub empty_cells : Header → Cells
empty_cells header = record {
  header = header;
  inst = record { slots = []; free = [] };
  iterm = record { slots = []; free = [] };
  net = record { slots = []; free = [] };
  bterm = record { slots = []; free = [] };
  pin = record { slots = []; free = [] };
  row = record { slots = []; free = [] };
  track = record { slots = []; free = [] };
  wire = record { slots = []; free = [] };
  blockage = record { slots = []; free = [] };
  region = record { slots = []; free = [] };
  group = record { slots = []; free = [] };
  prop = record { slots = []; free = [] };
}

-- what is asked of any table, asked of that of a kind
abbrev pub on_cells : {R : Type 0} → ((A : Type 0) → Table A → R) → Kind → Cells → R
on_cells ask kind.Inst c = ask _ c.inst
on_cells ask kind.ITerm c = ask _ c.iterm
on_cells ask kind.Net c = ask _ c.net
on_cells ask kind.BTerm c = ask _ c.bterm
on_cells ask kind.Pin c = ask _ c.pin
on_cells ask kind.Row c = ask _ c.row
on_cells ask kind.Track c = ask _ c.track
on_cells ask kind.Wire c = ask _ c.wire
on_cells ask kind.Blockage c = ask _ c.blockage
on_cells ask kind.Region c = ask _ c.region
on_cells ask kind.Group c = ask _ c.group
on_cells ask kind.Prop c = ask _ c.prop

-- how many slots the table of a kind has
abbrev pub slots_in : Kind → Cells → ℕ
slots_in k c = on_cells (λ A t. length t.slots) k c

-- the free identifiers of a kind, top first
abbrev pub free_in : Kind → Cells → List ℕ
free_in k c = on_cells (λ A t. t.free) k c

-- the identifier has an object of the kind
abbrev pub live_in : Kind → ℕ → Cells → Bool
live_in k id c = on_cells (λ A t. is_live t id) k c

-- the identifier that a new object of the kind gets after so many further ones
abbrev pub later_in : Kind → ℕ → Cells → ℕ
later_in k n c = on_cells (λ A t. next_id t n) k c

-- how many objects of the kind there are
abbrev pub live_count_in : Kind → Cells → ℕ
live_count_in k c = on_cells (λ A t. live_count t) k c
