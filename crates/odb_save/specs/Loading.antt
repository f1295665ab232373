-- What saved bytes come to when they are loaded: the database that they spell, or why they spell none.
use Rattle.std.specs.Prelude.{◌≡◌, List, ℕ, Option, None, Some, Result, Ok, Err}
use Rattle.odb_base.specs.declared.codes.kind.Kind.{Kind}
use Rattle.library.specs.declared.master.Master.{Master}
use Rattle.tech.specs.Technology.{Technology}
use Rattle.block_store.specs.Database.{Database, IsSoundDatabase}
use Rattle.block_tables.specs.Places.{IsLeastInKind}
use Rattle.block_tables.specs.Rules.{IsSoundHeader}
use Rattle.saved_reader.specs.declared.saved.Saved.{Saved}
use Rattle.saved_fields.specs.Fault as read
use Rattle.saved_reader.specs.Saved.{saved_in}
use Rattle.odb_save.specs.declared.load_fault.LoadFault.{LoadFault}
use Rattle.odb_save.specs.declared.load_fault.LoadFault.TheVariants as load
use Rattle.odb_save.specs.Design.{IsDesign}
use Rattle.odb_save.specs.Save.{save_bytes}
use Rattle.odb_save.specs.Spelled.{database_of}

-- ---- what was read and isn't sound

-- the technology and the library that were read are lawful, and the header of the block is sound with them
pub record IsSavedHeader (s : Saved) : Type 0 where
  pub design : IsDesign s.tech s.library
  pub header : IsSoundHeader s.tech s.library s.tables

-- The least place that isn't sound. The technology, the library and the header come first, of no kind and with identifier 0; then the
-- kinds in the order of their codes, in each the table, with identifier 0, before its records by their identifiers.
abbrev pub IsLeastUnsound : ℕ → Saved → Option Kind → ℕ → Type 0
IsLeastUnsound cap s None id = (id ≡ 0) × (¬ (IsSavedHeader s))
IsLeastUnsound cap s (Some k) id = IsDesign s.tech s.library × IsLeastInKind s.tech s.library cap s.tables k id

-- what was read is no sound database with this cap, and this is the least place
pub record IsUnsoundAt (cap : ℕ) (s : Saved) (kind : Option Kind) (id : ℕ) : Type 0 where
  pub unsound : ¬ (IsSoundDatabase (database_of cap s))
  pub least : IsLeastUnsound cap s kind id

-- the bytes were read to their end, and spell no sound database
pub record IsUnsound (cap : ℕ) (bytes : List ℕ) (kind : Option Kind) (id : ℕ) : Type 0 where
  pub saved : Saved
  pub read : saved_in cap bytes ≡ Ok saved
  pub place : IsUnsoundAt cap saved kind id

-- ---- what loading comes to

-- the fault is that of these bytes; want of memory says nothing of them
abbrev pub HasLoadCause : ℕ → List ℕ → LoadFault → Type 0
HasLoadCause cap bytes load.NotSaved = saved_in cap bytes ≡ Err read.NotSaved
HasLoadCause cap bytes (load.Version got) = saved_in cap bytes ≡ Err (read.Version got)
HasLoadCause cap bytes (load.Cut at) = saved_in cap bytes ≡ Err (read.Cut at)
HasLoadCause cap bytes (load.BadField at) = saved_in cap bytes ≡ Err (read.BadField at)
HasLoadCause cap bytes (load.OverCap kind) = saved_in cap bytes ≡ Err (read.OverCap kind)
HasLoadCause cap bytes (load.Trailing at) = saved_in cap bytes ≡ Err (read.Trailing at)
HasLoadCause cap bytes (load.Unsound kind id) = IsUnsound cap bytes kind id
HasLoadCause cap bytes load.Memory = Unit {0}

-- the bytes are those of this sound database, which has this cap
pub record IsLoaded (cap : ℕ) (bytes : List ℕ) (d : Database) : Type 0 where
  pub sound : IsSoundDatabase d
  pub saved : bytes ≡ save_bytes d
  pub capped : d.cap ≡ cap

-- what loading these bytes with this cap comes to; want of memory is no answer
abbrev pub Loads : ℕ → List ℕ → Result Database LoadFault → Type 0
Loads cap bytes (Ok d) = IsLoaded cap bytes d
Loads cap bytes (Err load.Memory) = ⊥
Loads cap bytes (Err fault) = HasLoadCause cap bytes fault

-- loading these bytes with this cap comes to one answer
abbrev pub HasOneAnswer : ℕ → List ℕ → Type 0
HasOneAnswer cap bytes = (a b : Result Database LoadFault) → Loads cap bytes a → Loads cap bytes b → a ≡ b

-- loading these bytes with this cap has an answer, as classical logic says it: not each one fails to be it
abbrev pub HasAnAnswer : ℕ → List ℕ → Type 0
HasAnAnswer cap bytes = ¬ ((answer : Result Database LoadFault) → ¬ (Loads cap bytes answer))

-- ---- what calls say

-- the answer is this very database, or that there is no memory
abbrev pub IsLoadedAs : Database → Result Database LoadFault → Type 0
IsLoadedAs d (Ok other) = other ≡ d
IsLoadedAs d (Err load.Memory) = Unit {0}
IsLoadedAs d (Err fault) = ⊥

-- the answer is what loading comes to, or that there is no memory
abbrev pub IsLoadAnswer : ℕ → List ℕ → Result Database LoadFault → Type 0
IsLoadAnswer cap bytes (Err load.Memory) = Unit {0}
IsLoadAnswer cap bytes answer = Loads cap bytes answer

-- the fault is that this technology and these masters aren't lawful, or that there is no memory
abbrev pub IsDesignFault : Technology → List Master → LoadFault → Type 0
IsDesignFault t masters load.Memory = Unit {0}
IsDesignFault t masters fault = (fault ≡ load.Unsound None 0) × (¬ (IsDesign t masters))

-- the fault says where what was read isn't sound, or that there is no memory
abbrev pub IsPartFault : ℕ → Saved → LoadFault → Type 0
IsPartFault cap s (load.Unsound kind id) = IsUnsoundAt cap s kind id
IsPartFault cap s load.Memory = Unit {0}
IsPartFault cap s fault = ⊥
