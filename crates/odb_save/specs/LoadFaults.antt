-- The faults of loading that stand for those of the calls below.
use Rattle.std.specs.Prelude.{None}
use Rattle.block_tables.specs.declared.fault.TablesFault.{TablesFault}
use Rattle.block_tables.specs.declared.fault.TablesFault.TheVariants as tables
use Rattle.saved_fields.specs.declared.fault.ReadFault.{ReadFault}
use Rattle.saved_fields.specs.declared.fault.ReadFault.TheVariants as read
use Rattle.saved_fields.specs.Fault as fault
use Rattle.saved_fields.specs.Fault.{Fault}
use Rattle.tech_parts.specs.declared.fault.PartFault.{PartFault}
use Rattle.tech_parts.specs.declared.fault.PartFault.TheVariants as part
use Rattle.odb_save.specs.declared.load_fault.LoadFault.{LoadFault}
use Rattle.odb_save.specs.declared.load_fault.LoadFault.TheVariants as load

-- that of reading
abbrev pub of_read : ReadFault → LoadFault
of_read read.NotSaved = load.NotSaved
of_read (read.Version got) = load.Version got
of_read (read.Cut at) = load.Cut at
of_read (read.BadField at) = load.BadField at
of_read (read.OverCap kind) = load.OverCap kind
of_read (read.Trailing at) = load.Trailing at
of_read read.Memory = load.Memory

-- that of bytes which spell nothing
abbrev pub of_bytes : Fault → LoadFault
of_bytes fault.NotSaved = load.NotSaved
of_bytes (fault.Version got) = load.Version got
of_bytes (fault.Cut at) = load.Cut at
of_bytes (fault.BadField at) = load.BadField at
of_bytes (fault.OverCap kind) = load.OverCap kind
of_bytes (fault.Trailing at) = load.Trailing at

-- that of entering a technology and a library
abbrev pub of_part : PartFault → LoadFault
of_part part.Memory = load.Memory
of_part other = load.Unsound None 0

-- that of tables
abbrev pub of_tables : TablesFault → LoadFault
of_tables (tables.Unsound kind id) = load.Unsound kind id
of_tables tables.Memory = load.Memory
