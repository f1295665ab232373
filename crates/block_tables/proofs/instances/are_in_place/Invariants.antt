use Rattle.std.proofs.Common.{◌≡◌, ◌<◌, ℕ, Some, get_or}
use Rattle.block_store.specs.Sound.{iterm_place}
use Rattle.block_tables.proofs.instances.are_in_place.Given as goal

abbrev pub invariant-loop-place : goal.invariant-loop-place
invariant-loop-place l = (place : ℕ) → place < l.place → iterm_place l.tables (get_or l.terminals place 0) ≡ Some (l.inst, place)
