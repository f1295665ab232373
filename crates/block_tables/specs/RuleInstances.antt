-- When an instance is sound.
use Rattle.std.specs.Prelude.{◌≡◌, List, ℕ, Some, slice_get}
use Rattle.library.specs.declared.master.Master.{Master}
use Rattle.block_store.specs.declared.entry.InstEntry.{InstEntry}
use Rattle.block_store.specs.Block.{Block}
use Rattle.block_store.specs.Instances.{IsInst}
use Rattle.block_store.specs.Sound.{iterm_place}
use Rattle.block_tables.specs.Names.{IsAlone}

-- each of an instance's terminals is there, names it, and has its place there as its index
abbrev pub AreInPlace : Block → ℕ → List ℕ → Type 0
AreInPlace b id terminals = (place part : ℕ) → slice_get terminals place ≡ Some part → iterm_place b part ≡ Some (id, place)

-- the instance of an identifier is sound
pub record IsSoundInst (library : List Master) (b : Block) (id : ℕ) (e : InstEntry) : Type 0 where
  -- its values are lawful, and it has a terminal for each of its master's
  pub values : IsInst library e
  -- no other instance has its name
  pub alone : IsAlone (λ e. e.fields.name) b.inst id e.fields.name
  -- its terminals are in their places
  pub terminals : AreInPlace b id e.fields.terminals
