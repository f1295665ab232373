-- The lists of a block are read off their links.
use Rattle.std.proofs.Common.{◌≡◌, ◌/◌, ◌≤◌, ℕ, refl, arith, true, false, inl, inr}
use Rattle.std.proofs.lemmas.Bool.{cases_Bool, false≢true}
use Rattle.slot_pool.proofs.Counts.{live_within}
use Rattle.linked_pool.specs.Pairs.{is_first}
use Rattle.block_cells.specs.Cells.{Cells}
use Rattle.block_cells.specs.Lists.{Groups, Members, None, Pins, Props, Sort, Terms, Wires, is_cell, most}

-- 0 is no cell
pub cell_none : (s : Sort) (c : Cells) → is_cell s c 0 ≡ false
cell_none Terms c = refl
cell_none Wires c = refl
cell_none Members c = refl
cell_none Pins c = refl
cell_none Groups c = refl
cell_none Props c = refl
cell_none None c = refl

few_terms : (c : Cells) (m : ℕ) → is_cell Terms c m ≡ true → m ≤ most Terms c
few_terms c m is = elim (cases_Bool (is_first m)) [
  | inl e ↦ omega (arith, (live_within c.iterm.slots (m / 2) (rw e at is)).1)
  | inr e ↦ omega (arith, (live_within c.bterm.slots (m / 2) (rw e at is)).1)
]

-- no cell is above the greatest number
pub cell_few : (s : Sort) (c : Cells) (m : ℕ) → is_cell s c m ≡ true → m ≤ most s c
cell_few Terms c m is = few_terms c m is
cell_few Wires c m is = (live_within c.wire.slots m is).1
cell_few Members c m is = (live_within c.inst.slots m is).1
cell_few Pins c m is = (live_within c.pin.slots m is).1
cell_few Groups c m is = (live_within c.group.slots m is).1
cell_few Props c m is = (live_within c.prop.slots m is).1
cell_few None c m is = absurd (false≢true is)
