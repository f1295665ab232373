-- The kind and the name of a record.
use Rattle.std.specs.Prelude.{List, ℕ, Option, Some, None}
use Rattle.odb_base.specs.declared.codes.kind.Kind.{Kind}
use Rattle.odb_base.specs.declared.codes.kind.Kind.TheVariants as kind
use Rattle.block_records.specs.declared.record.Record.{Record}
use Rattle.block_records.specs.declared.record.Record.TheVariants as rec

-- the kind of the object
abbrev pub kind_of : Record → Kind
kind_of (rec.Inst r) = kind.Inst
kind_of (rec.ITerm r) = kind.ITerm
kind_of (rec.Net r) = kind.Net
kind_of (rec.BTerm r) = kind.BTerm
kind_of (rec.Pin r) = kind.Pin
kind_of (rec.Row r) = kind.Row
kind_of (rec.Track r) = kind.Track
kind_of (rec.Wire r) = kind.Wire
kind_of (rec.Blockage r) = kind.Blockage
kind_of (rec.Region r) = kind.Region
kind_of (rec.Group r) = kind.Group
kind_of (rec.Prop r) = kind.Prop

-- the name of the object, where its kind has names
abbrev pub name_of : Record → Option (List ℕ)
name_of (rec.Inst r) = Some r.name
name_of (rec.ITerm r) = None
name_of (rec.Net r) = Some r.name
name_of (rec.BTerm r) = Some r.name
name_of (rec.Pin r) = None
name_of (rec.Row r) = Some r.name
name_of (rec.Track r) = None
name_of (rec.Wire r) = None
name_of (rec.Blockage r) = None
name_of (rec.Region r) = Some r.name
name_of (rec.Group r) = Some r.name
name_of (rec.Prop r) = None
