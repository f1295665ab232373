-- What a refusal says of the tables.
use Rattle.std.specs.Prelude.{List, ℕ}
use Rattle.library.specs.declared.master.Master.{Master}
use Rattle.tech.specs.Technology.{Technology}
use Rattle.block_store.specs.Block.{Block}
use Rattle.block_store.specs.Sound.{IsSound}
use Rattle.block_tables.specs.Places.{IsLeastFault}
use Rattle.block_tables.specs.declared.fault.TablesFault.{TablesFault}
use Rattle.block_tables.specs.declared.fault.TablesFault.TheVariants as fault

-- the place that it names is the least that isn't sound; want of memory says nothing
abbrev pub IsCause : Technology → List Master → ℕ → Block → TablesFault → Type 0
IsCause tech library cap b (fault.Unsound kind id) = IsLeastFault tech library cap b kind id
IsCause tech library cap b fault.Memory = Unit {0}

-- the block isn't sound, and the place that is named is the least; want of memory says nothing
abbrev pub IsRefusal : Technology → List Master → ℕ → Block → TablesFault → Type 0
IsRefusal tech library cap b (fault.Unsound kind id) = (¬ (IsSound tech library cap b)) × IsLeastFault tech library cap b kind id
IsRefusal tech library cap b fault.Memory = Unit {0}
