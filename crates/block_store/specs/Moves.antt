-- What the writing calls of a block make of it: objects that come and go, and fields that change.
use Rattle.std.specs.Prelude.{Bool, List, [], ℕ}
use Rattle.slot_pool.specs.Table.{CanUntake, given, taken, ungiven, untaken}
use Rattle.odb_base.specs.declared.codes.kind.Kind.{Kind}
use Rattle.odb_base.specs.declared.codes.kind.Kind.TheVariants as kind
use Rattle.odb_base.specs.declared.codes.direction.Direction.{Direction}
use Rattle.odb_base.specs.declared.codes.usage.Usage.{Usage}
use Rattle.odb_base.specs.declared.geometry.Placement.{Placement}
use Rattle.block_records.specs.declared.record.Record.{Record}
use Rattle.block_records.specs.declared.record.Record.TheVariants as rec
use Rattle.block_records.specs.declared.inst.InstRec.{InstRec}
use Rattle.block_store.specs.declared.entry.InstEntry.{InstEntry}
use Rattle.block_records.specs.declared.net.NetRec.{NetRec}
use Rattle.block_store.specs.declared.entry.NetEntry.{NetEntry}
use Rattle.block_records.specs.declared.bterm.BTermRec.{BTermRec}
use Rattle.block_store.specs.declared.entry.BTermEntry.{BTermEntry}
use Rattle.block_records.specs.declared.row.RowRec.{RowRec}
use Rattle.block_store.specs.declared.entry.RowEntry.{RowEntry}
use Rattle.block_records.specs.declared.region.RegionRec.{RegionRec}
use Rattle.block_store.specs.declared.entry.RegionEntry.{RegionEntry}
use Rattle.block_records.specs.declared.group.GroupRec.{GroupRec}
use Rattle.block_store.specs.declared.entry.GroupEntry.{GroupEntry}
use Rattle.block_store.specs.Block.{Block}
use Rattle.slot_pool.specs.Mapped.{on_record}

-- a new instance has empty lists
abbrev pub new_inst : InstRec → InstEntry
new_inst fields = record { fields = fields; props = [] }

-- a new net has empty lists
abbrev pub new_net : NetRec → NetEntry
new_net fields = record { fields = fields; terms = []; wires = []; props = [] }

-- a new block terminal has empty lists
abbrev pub new_bterm : BTermRec → BTermEntry
new_bterm fields = record { fields = fields; pins = [] }

-- a new row has empty lists
abbrev pub new_row : RowRec → RowEntry
new_row fields = record { fields = fields; props = [] }

-- a new region has empty lists
abbrev pub new_region : RegionRec → RegionEntry
new_region fields = record { fields = fields; groups = []; props = [] }

-- a new group has empty lists
abbrev pub new_group : GroupRec → GroupEntry
new_group fields = record { fields = fields; members = []; props = [] }

-- a new object
abbrev pub taken_in : Record → Block → Block
taken_in (rec.Inst r) b = record b { inst = taken (new_inst r) b.inst }
taken_in (rec.ITerm r) b = record b { iterm = taken r b.iterm }
taken_in (rec.Net r) b = record b { net = taken (new_net r) b.net }
taken_in (rec.BTerm r) b = record b { bterm = taken (new_bterm r) b.bterm }
taken_in (rec.Pin r) b = record b { pin = taken r b.pin }
taken_in (rec.Row r) b = record b { row = taken (new_row r) b.row }
taken_in (rec.Track r) b = record b { track = taken r b.track }
taken_in (rec.Wire r) b = record b { wire = taken r b.wire }
taken_in (rec.Blockage r) b = record b { blockage = taken r b.blockage }
taken_in (rec.Region r) b = record b { region = taken (new_region r) b.region }
taken_in (rec.Group r) b = record b { group = taken (new_group r) b.group }
taken_in (rec.Prop r) b = record b { prop = taken r b.prop }

-- an object that goes
abbrev pub given_in : Kind → ℕ → Block → Block
given_in kind.Inst id b = record b { inst = given id b.inst }
given_in kind.ITerm id b = record b { iterm = given id b.iterm }
given_in kind.Net id b = record b { net = given id b.net }
given_in kind.BTerm id b = record b { bterm = given id b.bterm }
given_in kind.Pin id b = record b { pin = given id b.pin }
given_in kind.Row id b = record b { row = given id b.row }
given_in kind.Track id b = record b { track = given id b.track }
given_in kind.Wire id b = record b { wire = given id b.wire }
given_in kind.Blockage id b = record b { blockage = given id b.blockage }
given_in kind.Region id b = record b { region = given id b.region }
given_in kind.Group id b = record b { group = given id b.group }
given_in kind.Prop id b = record b { prop = given id b.prop }

-- a new object taken back
abbrev pub untaken_in : Kind → ℕ → Bool → Block → Block
untaken_in kind.Inst id grew b = record b { inst = untaken id grew b.inst }
untaken_in kind.ITerm id grew b = record b { iterm = untaken id grew b.iterm }
untaken_in kind.Net id grew b = record b { net = untaken id grew b.net }
untaken_in kind.BTerm id grew b = record b { bterm = untaken id grew b.bterm }
untaken_in kind.Pin id grew b = record b { pin = untaken id grew b.pin }
untaken_in kind.Row id grew b = record b { row = untaken id grew b.row }
untaken_in kind.Track id grew b = record b { track = untaken id grew b.track }
untaken_in kind.Wire id grew b = record b { wire = untaken id grew b.wire }
untaken_in kind.Blockage id grew b = record b { blockage = untaken id grew b.blockage }
untaken_in kind.Region id grew b = record b { region = untaken id grew b.region }
untaken_in kind.Group id grew b = record b { group = untaken id grew b.group }
untaken_in kind.Prop id grew b = record b { prop = untaken id grew b.prop }

-- the new object can be taken back
abbrev pub CanUntakeIn : Kind → ℕ → Bool → Block → Type 0
CanUntakeIn kind.Inst id grew b = CanUntake b.inst id grew
CanUntakeIn kind.ITerm id grew b = CanUntake b.iterm id grew
CanUntakeIn kind.Net id grew b = CanUntake b.net id grew
CanUntakeIn kind.BTerm id grew b = CanUntake b.bterm id grew
CanUntakeIn kind.Pin id grew b = CanUntake b.pin id grew
CanUntakeIn kind.Row id grew b = CanUntake b.row id grew
CanUntakeIn kind.Track id grew b = CanUntake b.track id grew
CanUntakeIn kind.Wire id grew b = CanUntake b.wire id grew
CanUntakeIn kind.Blockage id grew b = CanUntake b.blockage id grew
CanUntakeIn kind.Region id grew b = CanUntake b.region id grew
CanUntakeIn kind.Group id grew b = CanUntake b.group id grew
CanUntakeIn kind.Prop id grew b = CanUntake b.prop id grew

-- an object that went and is back
abbrev pub ungiven_in : Record → Block → Block
ungiven_in (rec.Inst r) b = record b { inst = ungiven (new_inst r) b.inst }
ungiven_in (rec.ITerm r) b = record b { iterm = ungiven r b.iterm }
ungiven_in (rec.Net r) b = record b { net = ungiven (new_net r) b.net }
ungiven_in (rec.BTerm r) b = record b { bterm = ungiven (new_bterm r) b.bterm }
ungiven_in (rec.Pin r) b = record b { pin = ungiven r b.pin }
ungiven_in (rec.Row r) b = record b { row = ungiven (new_row r) b.row }
ungiven_in (rec.Track r) b = record b { track = ungiven r b.track }
ungiven_in (rec.Wire r) b = record b { wire = ungiven r b.wire }
ungiven_in (rec.Blockage r) b = record b { blockage = ungiven r b.blockage }
ungiven_in (rec.Region r) b = record b { region = ungiven (new_region r) b.region }
ungiven_in (rec.Group r) b = record b { group = ungiven (new_group r) b.group }
ungiven_in (rec.Prop r) b = record b { prop = ungiven r b.prop }

-- an instance terminal or a block terminal names another net, or none
abbrev pub with_net : Kind → ℕ → ℕ → Block → Block
with_net kind.ITerm id net b = record b { iterm = on_record (λ r. record r { net = net }) id b.iterm }
with_net kind.BTerm id net b = record b { bterm = on_record (λ e. record e { fields = record e.fields { net = net } }) id b.bterm }
with_net other id net b = b

-- an instance or a pin has another placement
abbrev pub with_place : Kind → ℕ → Placement → Block → Block
with_place kind.Inst id place b = record b { inst = on_record (λ e. record e { fields = record e.fields { place = place } }) id b.inst }
with_place kind.Pin id place b = record b { pin = on_record (λ r. record r { place = place }) id b.pin }
with_place other id place b = b

-- a net or a block terminal has another use
abbrev pub with_usage : Kind → ℕ → Usage → Block → Block
with_usage kind.Net id usage b = record b { net = on_record (λ e. record e { fields = record e.fields { usage = usage } }) id b.net }
with_usage kind.BTerm id usage b = record b { bterm = on_record (λ e. record e { fields = record e.fields { usage = usage } }) id b.bterm }
with_usage other id usage b = b

-- a block terminal has another direction
abbrev pub with_direction : ℕ → Direction → Block → Block
with_direction id direction b = record b { bterm = on_record (λ e. record e { fields = record e.fields { direction = direction } }) id b.bterm }

-- a net is special, or not
abbrev pub with_special : ℕ → Bool → Block → Block
with_special id special b = record b { net = on_record (λ e. record e { fields = record e.fields { special = special } }) id b.net }

-- an instance has another master
abbrev pub with_master : ℕ → ℕ → Block → Block
with_master id master b = record b { inst = on_record (λ e. record e { fields = record e.fields { master = master } }) id b.inst }

-- an instance has these terminals
abbrev pub with_terminals : ℕ → List ℕ → Block → Block
with_terminals id terminals b = record b { inst = on_record (λ e. record e { fields = record e.fields { terminals = terminals } }) id b.inst }

-- an instance terminal has another place among those of its instance
abbrev pub with_index : ℕ → ℕ → Block → Block
with_index id index b = record b { iterm = on_record (λ r. record r { index = index }) id b.iterm }

-- an object has another name
abbrev pub with_name : Kind → ℕ → List ℕ → Block → Block
with_name kind.Inst id name b = record b { inst = on_record (λ e. record e { fields = record e.fields { name = name } }) id b.inst }
with_name kind.Net id name b = record b { net = on_record (λ e. record e { fields = record e.fields { name = name } }) id b.net }
with_name kind.BTerm id name b = record b { bterm = on_record (λ e. record e { fields = record e.fields { name = name } }) id b.bterm }
with_name kind.Row id name b = record b { row = on_record (λ e. record e { fields = record e.fields { name = name } }) id b.row }
with_name kind.Region id name b = record b { region = on_record (λ e. record e { fields = record e.fields { name = name } }) id b.region }
with_name kind.Group id name b = record b { group = on_record (λ e. record e { fields = record e.fields { name = name } }) id b.group }
with_name other id name b = b
