-- Why a file isn't read or written whole.
use Rattle.std.specs.Prelude.{◌≤◌, ℕ, Result, IsErrOf}
use Rattle.odb_outside.specs.Outside.{Rose}
use Rattle.odb_outside.specs.declared.fault.WriteFault.{WriteFault}
use Rattle.odb_outside.specs.declared.fault.WriteFault.TheVariants as write
use Rattle.shelf_files.specs.declared.fault.FileFault.{FileFault}
use Rattle.shelf_files.specs.declared.fault.FileFault.TheVariants as fault

-- what a fault of a write is for the file
abbrev pub fault_of : WriteFault → FileFault
fault_of write.Failed = fault.Failed
fault_of write.Memory = fault.Memory

-- a count of faults never falls, and it rose where the call answered `Failed`
pub record HasCause {T : Type 0} (before now : ℕ) (result : Result T FileFault) : Type 0 where
  pub later : before ≤ now
  pub failed : IsErrOf result fault.Failed → Rose before now
