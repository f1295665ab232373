-- What fits the counts of the format, which have 32 bits.
use Rattle.std.specs.Prelude.{◌^◌, ◌<◌, List, length}
use Rattle.library.specs.declared.master.Master.{Master}
use Rattle.library.specs.declared.mterm.MTerm.{MTerm}
use Rattle.lawful_parts.specs.Lawful.{AreAll}

-- a list that a count of 32 bits can tell
abbrev pub IsShort : {A : Type 0} → List A → Type 0
IsShort xs = length xs < 2 ^ 32

-- the class, the foreign words and each list of a master fit the counts
pub record FitsMaster (m : Master) : Type 0 where
  pub class : IsShort m.class
  pub foreign : IsShort m.foreign
  pub terminals : IsShort m.terminals
  pub shapes : AreAll (λ (t : MTerm). IsShort t.shapes) m.terminals
  pub obstructions : IsShort m.obstructions
