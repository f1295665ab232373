-- The entry of an object: its record, and the lists that the block has for it.
use Rattle.std.specs.Prelude.{ℕ}
use Rattle.block_records.specs.declared.inst.InstRec.{InstRec}
use Rattle.block_records.specs.declared.net.NetRec.{NetRec}
use Rattle.block_records.specs.declared.bterm.BTermRec.{BTermRec}
use Rattle.block_records.specs.declared.row.RowRec.{RowRec}
use Rattle.block_records.specs.declared.region.RegionRec.{RegionRec}
use Rattle.block_records.specs.declared.group.GroupRec.{GroupRec}
use Rattle.odb_base.specs.declared.codes.kind.Kind.TheVariants as kind
use Rattle.block_store.specs.declared.entry.InstEntry.{InstEntry}
use Rattle.block_store.specs.declared.entry.NetEntry.{NetEntry}
use Rattle.block_store.specs.declared.entry.BTermEntry.{BTermEntry}
use Rattle.block_store.specs.declared.entry.RowEntry.{RowEntry}
use Rattle.block_store.specs.declared.entry.RegionEntry.{RegionEntry}
use Rattle.block_store.specs.declared.entry.GroupEntry.{GroupEntry}
use Rattle.block_store.specs.declared.list_of.ListOf.TheVariants as list
use Rattle.block_store.specs.Block.{Block}
use Rattle.block_store.specs.Lists.{list_at}

-- the entry of an instance, with its properties
abbrev pub inst_entry : ℕ → InstRec → Block → InstEntry
inst_entry id r b = record { fields = r; props = list_at (list.Props kind.Inst id) b }

-- the entry of a net, with its terminals, wires and properties
abbrev pub net_entry : ℕ → NetRec → Block → NetEntry
net_entry id r b = record {
  fields = r;
  terms = list_at (list.Terms (record { 0 = id })) b;
  wires = list_at (list.Wires (record { 0 = id })) b;
  props = list_at (list.Props kind.Net id) b;
}

-- the entry of a block terminal, with its pins
abbrev pub bterm_entry : ℕ → BTermRec → Block → BTermEntry
bterm_entry id r b = record { fields = r; pins = list_at (list.Pins (record { 0 = id })) b }

-- the entry of a row, with its properties
abbrev pub row_entry : ℕ → RowRec → Block → RowEntry
row_entry id r b = record { fields = r; props = list_at (list.Props kind.Row id) b }

-- the entry of a region, with the groups that are for it and its properties
abbrev pub region_entry : ℕ → RegionRec → Block → RegionEntry
region_entry id r b = record {
  fields = r;
  groups = list_at (list.Groups (record { 0 = id })) b;
  props = list_at (list.Props kind.Region id) b;
}

-- the entry of a group, with its members and its properties
abbrev pub group_entry : ℕ → GroupRec → Block → GroupEntry
group_entry id r b = record {
  fields = r;
  members = list_at (list.Members (record { 0 = id })) b;
  props = list_at (list.Props kind.Group id) b;
}
