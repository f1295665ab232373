-- What soundness of a block and the rules for its parts say of each other.
use Rattle.std.specs.Prelude.{◌↔◌, List, ℕ, Option}
use Rattle.odb_base.specs.declared.codes.kind.Kind.{Kind}
use Rattle.library.specs.declared.master.Master.{Master}
use Rattle.tech.specs.Technology.{Technology}
use Rattle.block_store.specs.Block.{Block}
use Rattle.block_store.specs.Sound.{IsSound}
use Rattle.block_tables.specs.Places.{IsLeastFault}
use Rattle.block_tables.specs.Rules.{AreSoundParts}

-- a block is sound exactly where its header, its tables and its records are
abbrev pub SoundByParts : Technology → List Master → ℕ → Block → Type 0
SoundByParts tech library cap b = IsSound tech library cap b ↔ AreSoundParts tech library cap b

-- where there is a least place that isn't sound, the block isn't
abbrev pub FaultsAreUnsound : Technology → List Master → ℕ → Block → Type 0
FaultsAreUnsound tech library cap b = (kind : Option Kind) (id : ℕ) → IsLeastFault tech library cap b kind id → ¬ (IsSound tech library cap b)
