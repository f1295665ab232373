-- A whole saved database.
use Rattle.std.specs.Prelude.{◌≡◌, ◌==◌, List, ℕ, Result, Ok, Err, if◌then◌else◌, codes, length}
use Rattle.std.specs.Str.{bytes_eq}
use Rattle.odb_base.specs.declared.codes.kind.Kind.{Kind}
use Rattle.odb_base.specs.declared.codes.kind.Kind.TheVariants as kind
use Rattle.odb_fields.specs.declared.get.Cut.{Cut}
use Rattle.odb_fields.specs.Reading.{Cursor, bytes_at, u32_at, ◌>>=◌}
use Rattle.block_records.specs.declared.header.Header.{Header}
use Rattle.block_records.specs.declared.blockage.BlockageRec.{BlockageRec}
use Rattle.block_records.specs.declared.iterm.ITermRec.{ITermRec}
use Rattle.block_records.specs.declared.pin.PinRec.{PinRec}
use Rattle.block_records.specs.declared.prop.PropRec.{PropRec}
use Rattle.block_records.specs.declared.track.TrackRec.{TrackRec}
use Rattle.block_records.specs.declared.wire.WireRec.{WireRec}
use Rattle.block_store.specs.declared.entry.BTermEntry.{BTermEntry}
use Rattle.block_store.specs.declared.entry.GroupEntry.{GroupEntry}
use Rattle.block_store.specs.declared.entry.InstEntry.{InstEntry}
use Rattle.block_store.specs.declared.entry.NetEntry.{NetEntry}
use Rattle.block_store.specs.declared.entry.RegionEntry.{RegionEntry}
use Rattle.block_store.specs.declared.entry.RowEntry.{RowEntry}
use Rattle.block_store.specs.Block.{Block}
use Rattle.library.specs.declared.master.Master.{Master}
use Rattle.slot_pool.specs.Table.{Table}
use Rattle.tech.specs.Technology.{Technology}
use Rattle.saved_fields.specs.declared.fault.ReadFault.{ReadFault}
use Rattle.saved_reader.specs.declared.saved.Saved.{Saved}
use Rattle.saved_fields.specs.Fault as fault
use Rattle.saved_fields.specs.Fault.{Fault}
use Rattle.saved_fields.specs.Format.{Format, fields, ◌&◌}
use Rattle.block_store.specs.View.{is_built}
use Rattle.saved_reader.specs.Grouping.{group_format, prop_format, region_format}
use Rattle.saved_reader.specs.Header.{header_format}
use Rattle.saved_reader.specs.Library.{library_format}
use Rattle.saved_reader.specs.Objects.{bterm_format, inst_format, iterm_format, net_format}
use Rattle.saved_fields.specs.PartFormats.{table_field}
use Rattle.saved_reader.specs.Physical.{blockage_format, pin_format, row_format, track_format, wire_format}
use Rattle.saved_fields.specs.Reading.{Fails, Reading, both, made, plain}
use Rattle.saved_reader.specs.Technology.{tech_format}

-- ---- the block

-- the table of a kind
abbrev pub kind_table : {A : Type 0} → Kind → ℕ → Format A → Format (Table A)
kind_table k cap each = table_field (is_built k) k cap each

-- the tables of instances, their terminals, nets and block terminals
abbrev pub Built : Type 0
Built = ((Table InstEntry × Table ITermRec) × Table NetEntry) × Table BTermEntry

-- the tables of the kinds that there are
unfoldable pub built_format : ℕ → Format Built
built_format cap =
    kind_table kind.Inst cap inst_format & kind_table kind.ITerm cap iterm_format
    & kind_table kind.Net cap net_format & kind_table kind.BTerm cap bterm_format

-- the tables of pins, rows, tracks, wires, blockages, regions, groups and properties
abbrev pub Others : Type 0
Others = ((((((Table PinRec × Table RowEntry) × Table TrackRec) × Table WireRec) × Table BlockageRec) × Table RegionEntry) × Table GroupEntry) × Table PropRec

-- the tables of the kinds that are still to come
unfoldable pub others_format : ℕ → Format Others
others_format cap =
    kind_table kind.Pin cap pin_format & kind_table kind.Row cap row_format
    & kind_table kind.Track cap track_format & kind_table kind.Wire cap wire_format
    & kind_table kind.Blockage cap blockage_format & kind_table kind.Region cap region_format
    & kind_table kind.Group cap group_format & kind_table kind.Prop cap prop_format

-- the block of this header and these tables
abbrev pub block_of : (Header × Built) × Others → Block
block_of t = record {
  header = t.0.0;
  inst = t.0.1.0.0.0;
  iterm = t.0.1.0.0.1;
  net = t.0.1.0.1;
  bterm = t.0.1.1;
  pin = t.1.0.0.0.0.0.0.0;
  row = t.1.0.0.0.0.0.0.1;
  track = t.1.0.0.0.0.0.1;
  wire = t.1.0.0.0.0.1;
  blockage = t.1.0.0.0.1;
  region = t.1.0.0.1;
  group = t.1.0.1;
  prop = t.1.1;
}

abbrev pub block_parts : Block → (Header × Built) × Others
block_parts b =
    ((b.header, (((b.inst, b.iterm), b.net), b.bterm)), (((((((b.pin, b.row), b.track), b.wire), b.blockage), b.region), b.group), b.prop))

-- the header, and the twelve tables in the order of the codes of their kinds
unfoldable pub block_format : ℕ → Format Block
block_format cap = fields block_of block_parts (header_format & built_format cap & others_format cap)

-- ---- all of it

-- the bytes are the mark
abbrev pub marked : Result (List ℕ × Cursor) Cut → Result (Unit {0} × Cursor) Fault
marked (Ok p) = if bytes_eq p.0 (codes "ODBS") then Ok (tt, p.1) else Err fault.NotSaved
marked (Err cut) = Err fault.NotSaved

-- the mark of a saved database
unfoldable pub mark_at : Reading (Unit {0})
mark_at input = marked (bytes_at 4 input)

-- the number is the version that is read here
abbrev pub known_version : ℕ × Cursor → Result (Unit {0} × Cursor) Fault
known_version p = if p.0 == 1 then Ok (tt, p.1) else Err (fault.Version p.0)

-- the version of the format
unfoldable pub version_at : Reading (Unit {0})
version_at input = plain u32_at input >>= known_version

-- what was read of a saved database, without the mark and the version
abbrev pub saved_of : (((Unit {0} × Unit {0}) × Technology) × List Master) × Block → Saved
saved_of t = record { tech = t.0.0.1; library = t.0.1; tables = t.1 }

-- the mark, the version, the technology, the library and the block
unfoldable pub saved_at : ℕ → Reading Saved
saved_at cap input = made saved_of (both (both (both (both mark_at version_at) tech_format.at) library_format.at) (block_format cap).at) input

-- what was read of so many bytes, where nothing stands behind it
abbrev pub whole : {A : Type 0} → ℕ → A × Cursor → Result A Fault
whole count p = if p.1.place == count then Ok p.0 else Err (fault.Trailing p.1.place)

-- what these bytes are as a saved database with this cap, or their first fault
unfoldable pub saved_in : ℕ → List ℕ → Result Saved Fault
saved_in cap bytes = saved_at cap (record { bytes = bytes; place = 0 }) >>= whole (length bytes)

-- the call answered what reading gives, or that there is no memory
abbrev pub Answers : {A : Type 0} → Result A ReadFault → Result A Fault → Type 0
Answers (Ok x) read = read ≡ Ok x
Answers (Err f) read = Fails f read
