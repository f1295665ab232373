-- No net so far has the member.
use Rattle.std.proofs.Common.{◌≡◌, ◌≤◌, ℕ, false}
use Rattle.slot_pool.specs.Table.{record_at}
use Rattle.odb_base.specs.Ids.{holds}
use Rattle.block_store.specs.Lists.{list_in}
use Rattle.block_tests.proofs.blocks.is_in_no_terms.Given as goal

abbrev pub invariant-loop-net : goal.invariant-loop-net
invariant-loop-net l = (id : ℕ) → id ≤ l.net → holds (list_in (λ e. e.terms) (record_at l.block.block.net id)) l.member ≡ false
