-- When a net is sound.
use Rattle.std.specs.Prelude.{◌≡◌, ◌==◌, ◌%◌, ◌/◌, ◌≤◌, List, ℕ, if◌then◌else◌}
use Rattle.slot_pool.specs.Table.{times}
use Rattle.block_store.specs.declared.entry.NetEntry.{NetEntry}
use Rattle.block_store.specs.Block.{Block}
use Rattle.block_store.specs.Nets.{IsNet}
use Rattle.block_store.specs.Sound.{bterm_net, iterm_net}
use Rattle.block_tables.specs.Names.{IsAlone}

-- the net that the terminal of a number is joined to, 0 for none: an even number is twice the identifier of an
-- instance terminal, an odd one that of a block terminal and one more
abbrev pub term_net : Block → ℕ → ℕ
term_net b number = if number % 2 == 0 then iterm_net b (number / 2) else bterm_net b (number / 2)

-- each number in the list stands there once, for a terminal that is there and names the net
abbrev pub AreTerminals : Block → ℕ → List ℕ → Type 0
AreTerminals b id numbers = (number : ℕ) → 1 ≤ times number numbers → (times number numbers ≡ 1) × (term_net b number ≡ id)

-- the net of an identifier is sound
pub record IsSoundNet (b : Block) (id : ℕ) (e : NetEntry) : Type 0 where
  -- its values are lawful
  pub values : IsNet e
  -- no other net has its name
  pub alone : IsAlone (λ e. e.fields.name) b.net id e.fields.name
  -- its list holds no terminal twice, and each is there and names it
  pub terminals : AreTerminals b id e.terms
