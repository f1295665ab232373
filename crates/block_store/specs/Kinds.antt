-- What a block has of each kind of objects: its table, and the entry that a slot of it holds. Laws over all kinds
-- are stated by these; contracts say the same kind by kind.
use Rattle.std.proofs.Common.{refl}
use Rattle.std.specs.Prelude.{ℕ}
use Rattle.odb_base.specs.declared.codes.kind.Kind.{Kind}
use Rattle.odb_base.specs.declared.codes.kind.Kind.TheVariants as kind
use Rattle.block_records.specs.declared.iterm.ITermRec.{ITermRec}
use Rattle.block_records.specs.declared.pin.PinRec.{PinRec}
use Rattle.block_records.specs.declared.track.TrackRec.{TrackRec}
use Rattle.block_records.specs.declared.wire.WireRec.{WireRec}
use Rattle.block_records.specs.declared.blockage.BlockageRec.{BlockageRec}
use Rattle.block_records.specs.declared.prop.PropRec.{PropRec}
use Rattle.block_store.specs.declared.entry.InstEntry.{InstEntry}
use Rattle.block_store.specs.declared.entry.NetEntry.{NetEntry}
use Rattle.block_store.specs.declared.entry.BTermEntry.{BTermEntry}
use Rattle.block_store.specs.declared.entry.RowEntry.{RowEntry}
use Rattle.block_store.specs.declared.entry.RegionEntry.{RegionEntry}
use Rattle.block_store.specs.declared.entry.GroupEntry.{GroupEntry}
use Rattle.slot_pool.specs.Table.{Table}
use Rattle.block_store.specs.Block.{Block}
use Rattle.block_store.specs.Lens.{Lens}
use Rattle.slot_pool.specs.Mapped.{on_record}

-- what a slot of a kind's table holds
abbrev pub Entry : Kind → Type 0
Entry kind.Inst = InstEntry
Entry kind.ITerm = ITermRec
Entry kind.Net = NetEntry
Entry kind.BTerm = BTermEntry
Entry kind.Pin = PinRec
Entry kind.Row = RowEntry
Entry kind.Track = TrackRec
Entry kind.Wire = WireRec
Entry kind.Blockage = BlockageRec
Entry kind.Region = RegionEntry
Entry kind.Group = GroupEntry
Entry kind.Prop = PropRec

-- the table of a kind
abbrev pub table : (k : Kind) → Lens Block (Table (Entry k))
table kind.Inst = record { get = λ b. b.inst; set = λ t b. record b { inst = t }; set_get = λ t b. refl; get_set = λ b. refl; set_set = λ t u b. refl }
table kind.ITerm = record { get = λ b. b.iterm; set = λ t b. record b { iterm = t }; set_get = λ t b. refl; get_set = λ b. refl; set_set = λ t u b. refl }
table kind.Net = record { get = λ b. b.net; set = λ t b. record b { net = t }; set_get = λ t b. refl; get_set = λ b. refl; set_set = λ t u b. refl }
table kind.BTerm = record { get = λ b. b.bterm; set = λ t b. record b { bterm = t }; set_get = λ t b. refl; get_set = λ b. refl; set_set = λ t u b. refl }
table kind.Pin = record { get = λ b. b.pin; set = λ t b. record b { pin = t }; set_get = λ t b. refl; get_set = λ b. refl; set_set = λ t u b. refl }
table kind.Row = record { get = λ b. b.row; set = λ t b. record b { row = t }; set_get = λ t b. refl; get_set = λ b. refl; set_set = λ t u b. refl }
table kind.Track = record { get = λ b. b.track; set = λ t b. record b { track = t }; set_get = λ t b. refl; get_set = λ b. refl; set_set = λ t u b. refl }
table kind.Wire = record { get = λ b. b.wire; set = λ t b. record b { wire = t }; set_get = λ t b. refl; get_set = λ b. refl; set_set = λ t u b. refl }
table kind.Blockage = record { get = λ b. b.blockage; set = λ t b. record b { blockage = t }; set_get = λ t b. refl; get_set = λ b. refl; set_set = λ t u b. refl }
table kind.Region = record { get = λ b. b.region; set = λ t b. record b { region = t }; set_get = λ t b. refl; get_set = λ b. refl; set_set = λ t u b. refl }
table kind.Group = record { get = λ b. b.group; set = λ t b. record b { group = t }; set_get = λ t b. refl; get_set = λ b. refl; set_set = λ t u b. refl }
table kind.Prop = record { get = λ b. b.prop; set = λ t b. record b { prop = t }; set_get = λ t b. refl; get_set = λ b. refl; set_set = λ t u b. refl }

abbrev pub table_of : (k : Kind) → Block → Table (Entry k)
table_of k b = (table k).get b

-- the block with another table of a kind
abbrev pub with_table : (k : Kind) → Table (Entry k) → Block → Block
with_table k t b = (table k).set t b

-- the block with the entry of one object changed
abbrev pub on_entry : (k : Kind) → (Entry k → Entry k) → ℕ → Block → Block
on_entry k change id b = with_table k (on_record change id (table_of k b)) b
