use Rattle.std.proofs.Common.{◌≤◌, ℕ, IfSome}
use Rattle.library.specs.Masters.{master_at}
use Rattle.library.specs.Terminals.{HasDistinctTerminals}
use Rattle.block_tables.proofs.headers.have_distinct_terminals.Given as goal

abbrev pub invariant-loop-place : goal.invariant-loop-place
invariant-loop-place l = (id : ℕ) → id ≤ l.place → IfSome (master_at l.library id) (λ m. HasDistinctTerminals m)
