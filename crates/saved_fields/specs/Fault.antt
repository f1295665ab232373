-- Why bytes spell no saved database.
use Rattle.std.specs.Prelude.{ℕ}
use Rattle.odb_base.specs.declared.codes.kind.Kind.{Kind}

-- The first fault of the bytes, read from the front. Want of memory is none of them.
pub data Fault : Type 0 where
  NotSaved : Fault
  Version : ℕ → Fault
  Cut : ℕ → Fault
  BadField : ℕ → Fault
  OverCap : Kind → Fault
  Trailing : ℕ → Fault

-- the place that a fault names, where it names one, and else 0
abbrev pub fault_place : Fault → ℕ
fault_place NotSaved = 0
fault_place (Version got) = 0
fault_place (Cut at) = at
fault_place (BadField at) = at
fault_place (OverCap kind) = 0
fault_place (Trailing at) = at
