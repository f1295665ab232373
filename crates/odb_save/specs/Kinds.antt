-- Each table of a block with the bytes of its records.
use Rattle.std.specs.Prelude.{List, ℕ, drop}
use Rattle.std.specs.List.{flat_map}
use Rattle.odb_base.specs.declared.codes.kind.Kind.{Kind}
use Rattle.odb_base.specs.declared.codes.kind.Kind.TheVariants as kind
use Rattle.slot_pool.specs.Table.{Table, record_at}
use Rattle.block_store.specs.Block.{Block}
use Rattle.block_store.specs.Kinds.{Entry, table_of}
use Rattle.saved_fields.specs.Bytes.{option_bytes, table_bytes}
use Rattle.saved_fields.specs.Format.{Format}
use Rattle.saved_reader.specs.Grouping.{group_format, prop_format, region_format}
use Rattle.saved_reader.specs.Objects.{bterm_format, inst_format, iterm_format, net_format}
use Rattle.saved_reader.specs.Physical.{blockage_format, pin_format, row_format, track_format, wire_format}

-- how the objects of a kind are saved
abbrev pub saved_as : (k : Kind) → Format (Entry k)
saved_as kind.Inst = inst_format
saved_as kind.ITerm = iterm_format
saved_as kind.Net = net_format
saved_as kind.BTerm = bterm_format
saved_as kind.Pin = pin_format
saved_as kind.Row = row_format
saved_as kind.Track = track_format
saved_as kind.Wire = wire_format
saved_as kind.Blockage = blockage_format
saved_as kind.Region = region_format
saved_as kind.Group = group_format
saved_as kind.Prop = prop_format

-- what is asked of a table and the bytes of its records, asked of that of a kind; spelled out at one, so that it computes
-- at each
abbrev pub on_saved : {R : Type 0} → ((A : Type 0) → (A → List ℕ) → Table A → R) → Kind → Block → R
on_saved ask kind.Inst b = ask _ inst_format.bytes b.inst
on_saved ask k b = ask _ (saved_as k).bytes (table_of k b)

-- the table of a kind
unfoldable pub table_in : Kind → Block → List ℕ
table_in k b = on_saved (λ A each t. table_bytes each t) k b

-- the slot of an identifier
unfoldable pub slot_in : Kind → ℕ → Block → List ℕ
slot_in k id b = on_saved (λ A each t. option_bytes each (record_at t id)) k b

-- the slots behind so many first ones
unfoldable pub slots_behind : ℕ → Kind → Block → List ℕ
slots_behind passed k b = on_saved (λ A each t. flat_map (option_bytes each) (drop passed t.slots)) k b
